use Rattle.std.proofs.Common.{arith}
use Rattle.jp_query.proofs.TreeRules.{folds}
use Rattle.jp_folding.proofs.Runs.{runs}
use Rattle.jp_folded.proofs.table.table_of_tests.Goals as goal

pub returns-clause-is_null : goal.returns-clause-is_null
returns-clause-is_null c = (grind (arith, folds), simp runs)

pub returns-clause-is_not_null : goal.returns-clause-is_not_null
returns-clause-is_not_null c = (grind (arith, folds), simp runs)

pub returns-clause-is_true : goal.returns-clause-is_true
returns-clause-is_true c = (grind (arith, folds), simp runs)

pub returns-clause-is_false : goal.returns-clause-is_false
returns-clause-is_false c = (grind (arith, folds), simp runs)

pub returns-clause-is_unknown : goal.returns-clause-is_unknown
returns-clause-is_unknown c = (grind (arith, folds), simp runs)

pub returns-clause-is_not_unknown : goal.returns-clause-is_not_unknown
returns-clause-is_not_unknown c = (grind (arith, folds), simp runs)

pub returns-clause-coalesce_of_literals : goal.returns-clause-coalesce_of_literals
returns-clause-coalesce_of_literals c = (grind (arith, folds), simp runs)

pub returns-clause-coalesce_of_a_column : goal.returns-clause-coalesce_of_a_column
returns-clause-coalesce_of_a_column c = (grind (arith, folds), simp runs)

pub returns-clause-coalesce_of_nothing : goal.returns-clause-coalesce_of_nothing
returns-clause-coalesce_of_nothing c = (grind (arith, folds), simp runs)

pub returns-clause-case_of_literals : goal.returns-clause-case_of_literals
returns-clause-case_of_literals c = (grind (arith, folds), simp runs)

pub returns-clause-case_of_a_column : goal.returns-clause-case_of_a_column
returns-clause-case_of_a_column c = (grind (arith, folds), simp runs)
