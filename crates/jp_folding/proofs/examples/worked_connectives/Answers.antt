use Rattle.jp_folding.proofs.Runs.{runs}
use Rattle.jp_folding.proofs.examples.worked_connectives.Goals as goal

pub returns-clause-null_and_false : goal.returns-clause-null_and_false
returns-clause-null_and_false c = simp runs

pub returns-clause-column_and_false : goal.returns-clause-column_and_false
returns-clause-column_and_false c = simp runs

pub returns-clause-null_stays : goal.returns-clause-null_stays
returns-clause-null_stays c = simp runs

pub returns-clause-nested : goal.returns-clause-nested
returns-clause-nested c = simp runs

pub returns-clause-one_left : goal.returns-clause-one_left
returns-clause-one_left c = simp runs

pub returns-clause-or_with_true : goal.returns-clause-or_with_true
returns-clause-or_with_true c = simp runs

pub returns-clause-or_with_false : goal.returns-clause-or_with_false
returns-clause-or_with_false c = simp runs
