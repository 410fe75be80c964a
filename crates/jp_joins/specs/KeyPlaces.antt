-- Where a list of conditions has the equality of the two sides of the key.
use Rattle.std.specs.Prelude.{◌≡◌, ◌&&◌, ◌||◌, ◌<◌, ℕ, Bool, true, false, List, Option, Some, None, length, slice_index_or}
use Rattle.jp_query.specs.declared.Expr.{Expr}
use Rattle.jp_query.specs.Equality.{same_expr}
use Rattle.jp_problem.specs.Equalities.{Sides, sides_of}

abbrev pub are_sides : Expr → Expr → Option Sides → Bool
are_sides first second (Some sides) = (same_expr first sides.first && same_expr second sides.second) || (same_expr second sides.first && same_expr first sides.second)
are_sides first second None = false

-- the condition is the equality of the two sides, either of them first
abbrev pub is_equality : Expr → Expr → Expr → Bool
is_equality first second cond = are_sides first second (sides_of cond)

-- the place is that of such an equality
pub record IsKeyPlace (conds : List Expr) (first second : Expr) (place : ℕ) : Type 0 where
  pub inside : place < length conds
  pub is : (d : Expr) → is_equality first second (slice_index_or conds place d) ≡ true
