use Rattle.std.proofs.Common.{◌≡◌, drop, map, fold}
use Rattle.std.specs.Prelude.{max}
use Rattle.jp_query.specs.Scopes.{greatest}
use Rattle.jp_resolution.specs.Types.{bound_in}
use Rattle.jp_resolve_parts.proofs.bounds.greatest_bound.Given as goal

abbrev pub invariant-operands : goal.invariant-operands
invariant-operands l = fold max l.most (map bound_in (drop l.operand-index l.operands)) ≡ greatest (map bound_in l.operands)
