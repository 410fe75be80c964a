use Rattle.std.proofs.Common.{◌≡◌, drop}
use Rattle.std.specs.List.{list_any}
use Rattle.jp_resolution.specs.Ordering as spec
use Rattle.jp_resolve_parts.proofs.orders.has_expr.Given as goal

abbrev pub invariant-outputs : goal.invariant-outputs
invariant-outputs l = list_any (spec.has_expr l.expr) (drop l.output-index l.outputs) ≡ list_any (spec.has_expr l.expr) l.outputs
