use Rattle.std.proofs.Common.{◌≡◌, drop}
use Rattle.jp_resolve_parts.specs.Orders.{outputs_named}
use Rattle.jp_resolve_parts.proofs.orders.named_expr.Given as goal

abbrev pub invariant-loop-place : goal.invariant-loop-place
invariant-loop-place l = outputs_named l.name (drop l.place l.outputs) ≡ outputs_named l.name l.outputs
