-- Dividing by one clause, one member of a class, one class at a time.
use Rattle.std.specs.Prelude.{ℕ, ◌&&◌, Bool, max, bit_or, List, [], ◌∷◌, map, filter, if◌then◌else◌}
use Rattle.jp_query.specs.declared.Expr.{Expr}
use Rattle.jp_problem.specs.declared.types.Problem.{Problem}
use Rattle.jp_problem.specs.declared.types.Clause.{Clause}
use Rattle.jp_problem.specs.declared.types.Class.{Class}
use Rattle.jp_cost.specs.declared.conditions.Pick.{Pick}
use Rattle.jp_problem.specs.StepClauses.{is_open_class}
use Rattle.jp_cost.specs.Estimates.{picks, is_picked, divided, divided_by, divided_by_all, values_of, counts_alone, counted_expr, counted_in_class, is_available}

-- the clause counts, and is meant
unfoldable pub is_meant : Problem → ℕ → Pick → Clause → Bool
is_meant problem set pick c = counts_alone problem.joins set c && picks pick c.req

unfoldable pub by_clause : Problem → ℕ → Pick → ℕ → Clause → ℕ
by_clause problem set pick rows c = if is_meant problem set pick c then divided_by problem rows c.expr else rows

-- the equality of a first member, with what it needs, and another
unfoldable pub by_member : Problem → ℕ → Pick → Expr → ℕ → ℕ → Expr × ℕ → ℕ
by_member problem set pick first needs rows m =
    if is_available set m && picks pick (bit_or needs m.1) then divided rows (max (values_of problem first) (values_of problem m.0)) else rows

unfoldable pub by_class : Problem → ℕ → Pick → ℕ → Class → ℕ
by_class problem set pick rows class =
    if is_open_class problem.joins set class then divided_by_all problem rows (map counted_expr (filter (is_picked pick) (counted_in_class set class))) else rows

-- the list from the first that passes on
abbrev pub from_first : {X : Type 0} → (X → Bool) → List X → List X
from_first passes [] = []
from_first passes (x ∷ xs) = if passes x then x ∷ xs else from_first passes xs
