use Rattle.std.proofs.Common.{◌≡◌, drop, map}
use Rattle.std.specs.List.{list_all}
use Rattle.jp_query.specs.Parts.{term_part}
use Rattle.jp_resolution.specs.Types as spec
use Rattle.jp_resolve_parts.proofs.types.all_terms_can_be.Given as goal

abbrev pub invariant-terms : goal.invariant-terms
invariant-terms l = list_all (spec.can_be l.needed) (map term_part (drop l.term-index l.terms)) ≡ list_all (spec.can_be l.needed) (map term_part l.terms)
