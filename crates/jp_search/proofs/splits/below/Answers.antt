use Rattle.std.proofs.Common.{refl, subst, sym}
use Rattle.std.specs.Prelude.{IsNone}
use Rattle.jp_search.proofs.NumberLaws.{not_empty}
use Rattle.jp_search.proofs.splits.below.Goals as goal

pub unreachable-requires : goal.unreachable-requires
unreachable-requires c = not_empty c.args.part c.requires.some c.requires.few (c.next_part.ensures.none.0 (subst (λ o. IsNone o) (sym c.in-None.is) refl))
