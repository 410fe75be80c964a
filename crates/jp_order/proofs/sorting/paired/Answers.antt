use Rattle.std.proofs.Common.{rules}
use Rattle.std.proofs.lemmas.Iterator.{YieldsList-from_zip, items_from_collect}
use Rattle.std.proofs.lemmas.Iterator.Adapters.{YieldsList-from_vec}
use Rattle.jp_order.proofs.sorting.paired.Goals as goal

pub returns-in-Ok : goal.returns-in-Ok
returns-in-Ok c = rw c.in-Ok.is at (items_from_collect c.collect.result c.collect.ensures.ran (YieldsList-from_zip (YieldsList-from_vec c.args.rows.items (cc) (search rules)) (YieldsList-from_vec c.args.keys.items (cc) (search rules))))
