use Rattle.std.proofs.Common.{◌≡◌, ◌++◌, take}
use Rattle.std.specs.List.{flat_map}
use Rattle.jp_session.specs.Parts.{order_parts}
use Rattle.jp_session.proofs.sources.push_orders.Given as goal

abbrev pub invariant-orders : goal.invariant-orders
invariant-orders l = l.parts.items ≡ l.fn.parts.items ++ flat_map order_parts (take l.order-index l.orders)
