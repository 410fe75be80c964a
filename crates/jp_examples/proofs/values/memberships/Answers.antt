use Rattle.jp_examples.proofs.Runs.{meanings}
use Rattle.jp_examples.proofs.values.memberships.Goals as goal

pub returns-clause-null_in_no_rows : goal.returns-clause-null_in_no_rows
returns-clause-null_in_no_rows c = simp meanings

pub returns-clause-null_in_one_row : goal.returns-clause-null_in_one_row
returns-clause-null_in_one_row c = simp meanings

pub returns-clause-in_rows : goal.returns-clause-in_rows
returns-clause-in_rows c = simp meanings

pub returns-clause-not_in_rows : goal.returns-clause-not_in_rows
returns-clause-not_in_rows c = simp meanings

pub returns-clause-null_in_list : goal.returns-clause-null_in_list
returns-clause-null_in_list c = simp meanings
