use Rattle.jp_folding.proofs.Runs.{runs}
use Rattle.jp_folding.proofs.examples.worked_conditions.Goals as goal

pub returns-clause-no_conditions : goal.returns-clause-no_conditions
returns-clause-no_conditions c = simp runs

pub returns-clause-true_goes : goal.returns-clause-true_goes
returns-clause-true_goes c = simp runs

pub returns-clause-false_stays : goal.returns-clause-false_stays
returns-clause-false_stays c = simp runs

pub returns-clause-nulls_are_one : goal.returns-clause-nulls_are_one
returns-clause-nulls_are_one c = simp runs

pub returns-clause-nested : goal.returns-clause-nested
returns-clause-nested c = simp runs

pub returns-clause-right_join : goal.returns-clause-right_join
returns-clause-right_join c = simp runs

pub returns-clause-inner_join : goal.returns-clause-inner_join
returns-clause-inner_join c = simp runs
