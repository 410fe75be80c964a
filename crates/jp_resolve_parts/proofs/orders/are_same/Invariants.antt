use Rattle.std.proofs.Common.{◌≡◌, drop}
use Rattle.std.specs.List.{list_all}
use Rattle.jp_resolution.specs.Ordering as spec
use Rattle.jp_resolve_parts.specs.Orders.{outputs_named}
use Rattle.jp_resolve_parts.proofs.orders.are_same.Given as goal

abbrev pub invariant-outputs : goal.invariant-outputs
invariant-outputs l = list_all (spec.has_expr l.expr) (outputs_named l.name (drop l.output-index l.outputs)) ≡ list_all (spec.has_expr l.expr) (outputs_named l.name l.outputs)
