use Rattle.jp_resolved.proofs.FreshQueries.{query_fresh, query_sorts}
use Rattle.jp_resolved.proofs.laws.each_resolved_query_is_fresh.Goals as goal

pub returns : goal.returns
returns c = record { fresh = query_fresh; selected = query_sorts }
