use Rattle.std.proofs.Common.{◌≡◌, drop}
use Rattle.jp_resolve.specs.Walk.{behind}
use Rattle.jp_resolve.specs.Orders as spec
use Rattle.jp_resolve.proofs.counting.Resolver.orders.Given as goal

abbrev pub invariant-orders : goal.invariant-orders
invariant-orders l = behind l.found (spec.orders_in l.self.catalog.now l.distinct l.outputs (drop l.order-index l.orders) l.levels l.after) ≡ spec.orders_in l.self.catalog.now l.distinct l.outputs l.orders l.levels l.fn.before
