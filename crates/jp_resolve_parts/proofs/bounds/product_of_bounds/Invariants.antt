use Rattle.std.proofs.Common.{◌≡◌, drop, map, fold}
use Rattle.jp_resolution.specs.Types.{bound_in}
use Rattle.jp_resolve_parts.specs.Bounds.{times_stopped}
use Rattle.jp_resolve_parts.proofs.bounds.product_of_bounds.Given as goal

abbrev pub invariant-factors : goal.invariant-factors
invariant-factors l = fold times_stopped l.total (map bound_in (drop l.factor-index l.factors)) ≡ fold times_stopped 1 (map bound_in l.factors)
