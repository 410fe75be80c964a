use Rattle.std.proofs.Common.{◌≡◌, map, drop}
use Rattle.std.specs.List.{list_all}
use Rattle.jp_query.specs.Parts.{term_part}
use Rattle.jp_folding.specs.Folding as folding
use Rattle.jp_fold.proofs.literals.are_literal_terms.Given as goal

abbrev pub invariant-loop-term : goal.invariant-loop-term
invariant-loop-term l = list_all folding.is_literal (map term_part (drop l.term-index l.terms)) ≡ list_all folding.is_literal (map term_part (l.terms))
