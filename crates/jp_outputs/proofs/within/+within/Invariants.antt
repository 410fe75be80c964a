use Rattle.std.proofs.Common.{◌≡◌, map, take}
use Rattle.jp_query.specs.Parts.{arm_parts, term_part}
use Rattle.jp_outputs.specs.Within.{all_hold, names_within}
use Rattle.jp_outputs.proofs.within.+within.Given as goal

abbrev pub invariant-list_within-exprs : goal.invariant-list_within-exprs
invariant-list_within-exprs l = l.all ≡ all_hold (map (names_within l.set) (take l.expr-index l.exprs))

abbrev pub invariant-terms_within-terms : goal.invariant-terms_within-terms
invariant-terms_within-terms l = l.all ≡ all_hold (map (names_within l.set) (map term_part (take l.term-index l.terms)))

abbrev pub invariant-arms_within-arms : goal.invariant-arms_within-arms
invariant-arms_within-arms l = l.all ≡ all_hold (map (names_within l.set) (arm_parts (take l.when-index l.arms)))
