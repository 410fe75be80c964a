use Rattle.std.proofs.Common.{◌≡◌, ◌++◌, map}
use Rattle.jp_resolution.specs.Types as spec
use Rattle.jp_resolve_parts.proofs.types.terms_as.Given as goal

abbrev pub invariant-terms : goal.invariant-terms
invariant-terms l = l.exprs ++ map (spec.term_as l.needed) l.term-iterator.rest.items ≡ map (spec.term_as l.needed) l.fn.terms.items
