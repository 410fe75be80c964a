use Rattle.std.proofs.Common.{arith}
use Rattle.jp_query.proofs.TreeRules.{folds}
use Rattle.jp_folding.proofs.Runs.{runs}
use Rattle.jp_folded.proofs.table.table_of_connectives.Goals as goal

pub returns-clause-not_absent : goal.returns-clause-not_absent
returns-clause-not_absent c = (grind (arith, folds), simp runs)

pub returns-clause-not_not : goal.returns-clause-not_not
returns-clause-not_not c = (grind (arith, folds), simp runs)

pub returns-clause-not_true : goal.returns-clause-not_true
returns-clause-not_true c = (grind (arith, folds), simp runs)

pub returns-clause-absent_and_null : goal.returns-clause-absent_and_null
returns-clause-absent_and_null c = (grind (arith, folds), simp runs)

pub returns-clause-present_and_null : goal.returns-clause-present_and_null
returns-clause-present_and_null c = (grind (arith, folds), simp runs)

pub returns-clause-null_and_false : goal.returns-clause-null_and_false
returns-clause-null_and_false c = (grind (arith, folds), simp runs)

pub returns-clause-present_and_true : goal.returns-clause-present_and_true
returns-clause-present_and_true c = (grind (arith, folds), simp runs)

pub returns-clause-and_in_and : goal.returns-clause-and_in_and
returns-clause-and_in_and c = (grind (arith, folds), simp runs)

pub returns-clause-present_or_false : goal.returns-clause-present_or_false
returns-clause-present_or_false c = (grind (arith, folds), simp runs)

pub returns-clause-present_or_true : goal.returns-clause-present_or_true
returns-clause-present_or_true c = (grind (arith, folds), simp runs)

pub returns-clause-absent_or_null : goal.returns-clause-absent_or_null
returns-clause-absent_or_null c = (grind (arith, folds), simp runs)

pub returns-clause-absent_or_present : goal.returns-clause-absent_or_present
returns-clause-absent_or_present c = (grind (arith, folds), simp runs)
