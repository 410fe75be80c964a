use Rattle.std.proofs.Common.{◌≡◌, map, drop}
use Rattle.std.specs.List.{list_any}
use Rattle.jp_query.specs.Parts.{term_part}
use Rattle.jp_folding.specs.Folding as folding
use Rattle.jp_fold.proofs.literals.is_null_among_terms.Given as goal

abbrev pub invariant-loop-term : goal.invariant-loop-term
invariant-loop-term l = list_any folding.is_null (map term_part (drop l.term-index l.terms)) ≡ list_any folding.is_null (map term_part (l.terms))
