use Rattle.std.proofs.Common.{◌≡◌, drop}
use Rattle.std.specs.List.{list_all}
use Rattle.jp_resolution.specs.Types as spec
use Rattle.jp_resolve_parts.proofs.types.all_can_be.Given as goal

abbrev pub invariant-operands : goal.invariant-operands
invariant-operands l = list_all (spec.can_be l.needed) (drop l.operand-index l.operands) ≡ list_all (spec.can_be l.needed) l.operands
