use Rattle.jp_examples.proofs.Runs.{meanings}
use Rattle.jp_examples.proofs.rows.joins_in_another_environment.Goals as goal

pub returns-clause-full : goal.returns-clause-full
returns-clause-full c = simp meanings

pub returns-clause-semi : goal.returns-clause-semi
returns-clause-semi c = simp meanings
