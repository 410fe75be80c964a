use Rattle.std.proofs.Common.{rules}
use Rattle.std.proofs.lemmas.Iterator.{YieldsList-from_map, items_from_collect}
use Rattle.std.proofs.lemmas.Iterator.Adapters.{YieldsList-from_vec}
use Rattle.jp_query.specs.Ordering.{Row}
use Rattle.jp_order.proofs.sorting.outputs.Goals as goal

pub returns-in-Ok : goal.returns-in-Ok
returns-in-Ok c = rw c.in-Ok.is at (items_from_collect c.collect.result c.collect.ensures.ran (YieldsList-from_map _ (λ (p : Row × Row). p.0) (YieldsList-from_vec c.args.lines.items (cc) (search rules)) c.map.ensures.closure (λ x r q k. search rules)))
