use Rattle.jp_examples.proofs.Runs.{meanings}
use Rattle.jp_examples.proofs.rows.joins_with_several_matches.Goals as goal

pub returns-clause-inner : goal.returns-clause-inner
returns-clause-inner c = simp meanings

pub returns-clause-left : goal.returns-clause-left
returns-clause-left c = simp meanings

pub returns-clause-right : goal.returns-clause-right
returns-clause-right c = simp meanings

pub returns-clause-full : goal.returns-clause-full
returns-clause-full c = simp meanings

pub returns-clause-semi : goal.returns-clause-semi
returns-clause-semi c = simp meanings

pub returns-clause-anti : goal.returns-clause-anti
returns-clause-anti c = simp meanings
