use Rattle.std.proofs.Common.{arith}
use Rattle.jp_query.proofs.TreeRules.{folds}
use Rattle.jp_folding.proofs.Runs.{runs}
use Rattle.jp_folded.proofs.table.table_of_operators.Goals as goal

pub returns-clause-absent_column : goal.returns-clause-absent_column
returns-clause-absent_column c = (grind (arith, folds), simp runs)

pub returns-clause-present_column : goal.returns-clause-present_column
returns-clause-present_column c = (grind (arith, folds), simp runs)

pub returns-clause-null_literal : goal.returns-clause-null_literal
returns-clause-null_literal c = (grind (arith, folds), simp runs)

pub returns-clause-false_literal : goal.returns-clause-false_literal
returns-clause-false_literal c = (grind (arith, folds), simp runs)

pub returns-clause-true_literal : goal.returns-clause-true_literal
returns-clause-true_literal c = (grind (arith, folds), simp runs)

pub returns-clause-number_literal : goal.returns-clause-number_literal
returns-clause-number_literal c = (grind (arith, folds), simp runs)

pub returns-clause-absent_placeholder : goal.returns-clause-absent_placeholder
returns-clause-absent_placeholder c = (grind (arith, folds), simp runs)

pub returns-clause-placeholder_with_one_left : goal.returns-clause-placeholder_with_one_left
returns-clause-placeholder_with_one_left c = (grind (arith, folds), simp runs)

pub returns-clause-placeholder_of_a_null : goal.returns-clause-placeholder_of_a_null
returns-clause-placeholder_of_a_null c = (grind (arith, folds), simp runs)

pub returns-clause-sum_of_a_product : goal.returns-clause-sum_of_a_product
returns-clause-sum_of_a_product c = (grind (arith, folds), simp runs)

pub returns-clause-sum_with_null : goal.returns-clause-sum_with_null
returns-clause-sum_with_null c = (grind (arith, folds), simp runs)

pub returns-clause-sum_with_absent : goal.returns-clause-sum_with_absent
returns-clause-sum_with_absent c = (grind (arith, folds), simp runs)

pub returns-clause-product_with_null : goal.returns-clause-product_with_null
returns-clause-product_with_null c = (grind (arith, folds), simp runs)

pub returns-clause-negated_absent : goal.returns-clause-negated_absent
returns-clause-negated_absent c = (grind (arith, folds), simp runs)

pub returns-clause-negated_null : goal.returns-clause-negated_null
returns-clause-negated_null c = (grind (arith, folds), simp runs)

pub returns-clause-texts : goal.returns-clause-texts
returns-clause-texts c = (grind (arith, folds), simp runs)

pub returns-clause-text_with_null : goal.returns-clause-text_with_null
returns-clause-text_with_null c = (grind (arith, folds), simp runs)
