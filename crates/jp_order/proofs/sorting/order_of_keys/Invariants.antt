use Rattle.std.proofs.Common.{◌≡◌, drop, map}
use Rattle.jp_query.specs.InOrder.{direction_of}
use Rattle.jp_query.specs.Ordering.{keys_order}
use Rattle.jp_order.proofs.sorting.order_of_keys.Given as goal

abbrev pub invariant-items : goal.invariant-items
invariant-items l = keys_order (map direction_of (drop l.at l.order)) (drop l.at l.left) (drop l.at l.right) ≡ keys_order (map direction_of l.order) l.left l.right
