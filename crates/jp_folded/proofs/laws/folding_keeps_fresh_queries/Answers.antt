use Rattle.jp_folded.proofs.FreshLaws.{folded_fresh}
use Rattle.jp_folded.proofs.laws.folding_keeps_fresh_queries.Goals as goal

pub returns : goal.returns
returns c = folded_fresh
