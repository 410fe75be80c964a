use Rattle.std.proofs.Common.{arith}
use Rattle.jp_query.proofs.TreeRules.{folds}
use Rattle.jp_folding.proofs.Runs.{runs}
use Rattle.jp_folded.proofs.table.table_of_comparisons.Goals as goal

pub returns-clause-absent_side : goal.returns-clause-absent_side
returns-clause-absent_side c = (grind (arith, folds), simp runs)

pub returns-clause-null_side : goal.returns-clause-null_side
returns-clause-null_side c = (grind (arith, folds), simp runs)

pub returns-clause-equal_literals : goal.returns-clause-equal_literals
returns-clause-equal_literals c = (grind (arith, folds), simp runs)

pub returns-clause-absent_between : goal.returns-clause-absent_between
returns-clause-absent_between c = (grind (arith, folds), simp runs)

pub returns-clause-absent_bound : goal.returns-clause-absent_bound
returns-clause-absent_bound c = (grind (arith, folds), simp runs)

pub returns-clause-not_absent_bound : goal.returns-clause-not_absent_bound
returns-clause-not_absent_bound c = (grind (arith, folds), simp runs)

pub returns-clause-in_list_with_null : goal.returns-clause-in_list_with_null
returns-clause-in_list_with_null c = (grind (arith, folds), simp runs)

pub returns-clause-missing_in_list_with_null : goal.returns-clause-missing_in_list_with_null
returns-clause-missing_in_list_with_null c = (grind (arith, folds), simp runs)

pub returns-clause-absent_in_list : goal.returns-clause-absent_in_list
returns-clause-absent_in_list c = (grind (arith, folds), simp runs)

pub returns-clause-absent_in_the_list : goal.returns-clause-absent_in_the_list
returns-clause-absent_in_the_list c = (grind (arith, folds), simp runs)

pub returns-clause-null_in_select : goal.returns-clause-null_in_select
returns-clause-null_in_select c = (grind (arith, folds), simp runs)

pub returns-clause-absent_in_select : goal.returns-clause-absent_in_select
returns-clause-absent_in_select c = (grind (arith, folds), simp runs)

pub returns-clause-exists_a_right_join : goal.returns-clause-exists_a_right_join
returns-clause-exists_a_right_join c = (grind (arith, folds), simp runs)
