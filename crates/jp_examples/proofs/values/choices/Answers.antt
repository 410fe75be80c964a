use Rattle.jp_examples.proofs.Runs.{meanings}
use Rattle.jp_examples.proofs.values.choices.Goals as goal

pub returns-clause-between_lowest : goal.returns-clause-between_lowest
returns-clause-between_lowest c = simp meanings

pub returns-clause-between_highest : goal.returns-clause-between_highest
returns-clause-between_highest c = simp meanings

pub returns-clause-not_between : goal.returns-clause-not_between
returns-clause-not_between c = simp meanings

pub returns-clause-between_unknown : goal.returns-clause-between_unknown
returns-clause-between_unknown c = simp meanings

pub returns-clause-below_unknown : goal.returns-clause-below_unknown
returns-clause-below_unknown c = simp meanings

pub returns-clause-between_turned : goal.returns-clause-between_turned
returns-clause-between_turned c = simp meanings

pub returns-clause-first_of_some : goal.returns-clause-first_of_some
returns-clause-first_of_some c = simp meanings

pub returns-clause-first_of_none : goal.returns-clause-first_of_none
returns-clause-first_of_none c = simp meanings

pub returns-clause-chosen_by_value : goal.returns-clause-chosen_by_value
returns-clause-chosen_by_value c = simp meanings

pub returns-clause-null_chooses_nothing : goal.returns-clause-null_chooses_nothing
returns-clause-null_chooses_nothing c = simp meanings

pub returns-clause-none_chosen : goal.returns-clause-none_chosen
returns-clause-none_chosen c = simp meanings

pub returns-clause-chosen_by_truth : goal.returns-clause-chosen_by_truth
returns-clause-chosen_by_truth c = simp meanings

pub returns-clause-first_chosen : goal.returns-clause-first_chosen
returns-clause-first_chosen c = simp meanings
