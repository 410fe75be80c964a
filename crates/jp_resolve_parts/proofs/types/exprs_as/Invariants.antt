use Rattle.std.proofs.Common.{◌≡◌, ◌++◌, map}
use Rattle.jp_resolution.specs.Types as spec
use Rattle.jp_resolve_parts.proofs.types.exprs_as.Given as goal

abbrev pub invariant-operands : goal.invariant-operands
invariant-operands l = l.exprs ++ map (spec.expr_as l.needed) l.operand-iterator.rest.items ≡ map (spec.expr_as l.needed) l.fn.operands.items
