use Rattle.std.proofs.Common.{◌≡◌, ◌∷◌, take}
use Rattle.jp_resolve_parts.proofs.copies.inner_levels.Given as goal

abbrev pub invariant-levels : goal.invariant-levels
invariant-levels l = l.levels ≡ l.fn.own ∷ take l.level-index l.outer
