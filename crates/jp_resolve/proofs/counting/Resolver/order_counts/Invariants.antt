use Rattle.std.proofs.Common.{◌≡◌, drop}
use Rattle.jp_resolution.specs.Counting.{both}
use Rattle.jp_resolve.specs.Orders as spec
use Rattle.jp_resolve.proofs.counting.Resolver.order_counts.Given as goal

abbrev pub invariant-orders : goal.invariant-orders
invariant-orders l = both l.counts (spec.counts_of_orders l.self.catalog.now (drop l.order-index l.orders)) ≡ spec.counts_of_orders l.self.catalog.now l.orders
