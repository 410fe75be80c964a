use Rattle.jp_examples.proofs.Runs.{meanings}
use Rattle.jp_examples.proofs.rows.trees_of_other_parts.Goals as goal

pub returns-clause-from_with_condition : goal.returns-clause-from_with_condition
returns-clause-from_with_condition c = simp meanings

pub returns-clause-sub_select : goal.returns-clause-sub_select
returns-clause-sub_select c = simp meanings

pub returns-clause-sublink_in_on : goal.returns-clause-sublink_in_on
returns-clause-sublink_in_on c = simp meanings
