use Rattle.std.proofs.Common.{◌≡◌, drop}
use Rattle.jp_resolution.specs.Types as spec
use Rattle.jp_resolve_parts.proofs.types.common_type.Given as goal

abbrev pub invariant-operands : goal.invariant-operands
invariant-operands l = spec.common_type (drop l.operand-index l.operands) ≡ spec.common_type l.operands
