use Rattle.std.proofs.Common.{arith}
use Rattle.jp_query.proofs.TreeRules.{folds}
use Rattle.jp_examples.proofs.nullness.absent_under_connectives.Goals as goal

pub returns-clause-under_not : goal.returns-clause-under_not
returns-clause-under_not c = grind (arith, folds)

pub returns-clause-is_null_under_not : goal.returns-clause-is_null_under_not
returns-clause-is_null_under_not c = grind (arith, folds)

pub returns-clause-one_side_of_or : goal.returns-clause-one_side_of_or
returns-clause-one_side_of_or c = grind (arith, folds)

pub returns-clause-both_sides_of_or : goal.returns-clause-both_sides_of_or
returns-clause-both_sides_of_or c = grind (arith, folds)

pub returns-clause-or_is_null : goal.returns-clause-or_is_null
returns-clause-or_is_null c = grind (arith, folds)

pub returns-clause-is_true : goal.returns-clause-is_true
returns-clause-is_true c = grind (arith, folds)

pub returns-clause-is_true_is_known : goal.returns-clause-is_true_is_known
returns-clause-is_true_is_known c = grind (arith, folds)

pub returns-clause-is_true_under_not : goal.returns-clause-is_true_under_not
returns-clause-is_true_under_not c = grind (arith, folds)

pub returns-clause-is_not_true : goal.returns-clause-is_not_true
returns-clause-is_not_true c = grind (arith, folds)

pub returns-clause-is_false : goal.returns-clause-is_false
returns-clause-is_false c = grind (arith, folds)

pub returns-clause-is_unknown : goal.returns-clause-is_unknown
returns-clause-is_unknown c = grind (arith, folds)

pub returns-clause-is_not_unknown : goal.returns-clause-is_not_unknown
returns-clause-is_not_unknown c = grind (arith, folds)
