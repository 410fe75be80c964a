use Rattle.jp_folded.proofs.TypedLaws.{folded_typed, folded_bounded}
use Rattle.jp_folded.proofs.laws.folding_keeps_typed_queries.Goals as goal

pub returns : goal.returns
returns c = record { typed = folded_typed; bounded = folded_bounded }
