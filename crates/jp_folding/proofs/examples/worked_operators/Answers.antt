use Rattle.jp_folding.proofs.Runs.{runs}
use Rattle.jp_folding.proofs.examples.worked_operators.Goals as goal

pub returns-clause-sum_of_product : goal.returns-clause-sum_of_product
returns-clause-sum_of_product c = simp runs

pub returns-clause-sum_with_column : goal.returns-clause-sum_with_column
returns-clause-sum_with_column c = simp runs

pub returns-clause-sum_with_null : goal.returns-clause-sum_with_null
returns-clause-sum_with_null c = simp runs

pub returns-clause-in_with_null : goal.returns-clause-in_with_null
returns-clause-in_with_null c = simp runs

pub returns-clause-in_with_column : goal.returns-clause-in_with_column
returns-clause-in_with_column c = simp runs

pub returns-clause-coalesce_of_literals : goal.returns-clause-coalesce_of_literals
returns-clause-coalesce_of_literals c = simp runs

pub returns-clause-coalesce_of_a_column : goal.returns-clause-coalesce_of_a_column
returns-clause-coalesce_of_a_column c = simp runs

pub returns-clause-case_of_literals : goal.returns-clause-case_of_literals
returns-clause-case_of_literals c = simp runs

pub returns-clause-case_of_a_column : goal.returns-clause-case_of_a_column
returns-clause-case_of_a_column c = simp runs

pub returns-clause-placeholder_stays : goal.returns-clause-placeholder_stays
returns-clause-placeholder_stays c = simp runs

pub returns-clause-sublink_stays : goal.returns-clause-sublink_stays
returns-clause-sublink_stays c = simp runs
