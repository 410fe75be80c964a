use Rattle.std.proofs.Common.{arith}
use Rattle.jp_query.proofs.TreeRules.{folds}
use Rattle.jp_examples.proofs.nullness.absent_in_lists.Goals as goal

pub returns-clause-operand : goal.returns-clause-operand
returns-clause-operand c = grind (arith, folds)

pub returns-clause-member : goal.returns-clause-member
returns-clause-member c = grind (arith, folds)

pub returns-clause-operand_under_not : goal.returns-clause-operand_under_not
returns-clause-operand_under_not c = grind (arith, folds)

pub returns-clause-operand_of_query : goal.returns-clause-operand_of_query
returns-clause-operand_of_query c = grind (arith, folds)

pub returns-clause-operand_of_query_under_not : goal.returns-clause-operand_of_query_under_not
returns-clause-operand_of_query_under_not c = grind (arith, folds)

pub returns-clause-bound : goal.returns-clause-bound
returns-clause-bound c = grind (arith, folds)

pub returns-clause-bound_under_not : goal.returns-clause-bound_under_not
returns-clause-bound_under_not c = grind (arith, folds)

pub returns-clause-operand_of_between_under_not : goal.returns-clause-operand_of_between_under_not
returns-clause-operand_of_between_under_not c = grind (arith, folds)
