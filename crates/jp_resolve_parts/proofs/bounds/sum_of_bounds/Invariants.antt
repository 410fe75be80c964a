use Rattle.std.proofs.Common.{◌≡◌, drop, map, fold}
use Rattle.jp_query.specs.Parts.{term_part}
use Rattle.jp_resolution.specs.Types.{bound_in}
use Rattle.jp_resolve_parts.specs.Bounds.{plus_stopped}
use Rattle.jp_resolve_parts.proofs.bounds.sum_of_bounds.Given as goal

abbrev pub invariant-terms : goal.invariant-terms
invariant-terms l = fold plus_stopped l.total (map bound_in (map term_part (drop l.term-index l.terms))) ≡ fold plus_stopped 0 (map bound_in (map term_part l.terms))
