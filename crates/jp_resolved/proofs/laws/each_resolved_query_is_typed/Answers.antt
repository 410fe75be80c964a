use Rattle.jp_resolved.proofs.TypedQueries.{query_typed, query_bounded}
use Rattle.jp_resolved.proofs.laws.each_resolved_query_is_typed.Goals as goal

pub returns : goal.returns
returns c = record { typed = query_typed; bounded = query_bounded }
