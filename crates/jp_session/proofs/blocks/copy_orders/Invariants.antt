use Rattle.std.proofs.Common.{◌≡◌, take}
use Rattle.jp_session.proofs.blocks.copy_orders.Given as goal

abbrev pub invariant-orders : goal.invariant-orders
invariant-orders l = l.copies ≡ take l.order-index l.orders
