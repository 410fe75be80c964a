-- An estimate is from 1 to the most rows there are.
use Rattle.std.proofs.Common.{ℕ, zero, suc, ◌*◌, ◌^◌, ◌≤◌, arith, Bool, true, false, List, [], ◌∷◌, map, filter, fold}
use Rattle.std.specs.Prelude.{All, if◌then◌else◌}
use Rattle.std.proofs.Math.Nat.{div-le_self, mul-pos, min-le_left, le-min}
use Rattle.std.proofs.lemmas.List.Elements.{All-head, All-tail}
use Rattle.jp_query.specs.declared.Expr.{Expr}
use Rattle.jp_query.specs.declared.JoinKind.{JoinKind}
use Rattle.jp_query.specs.declared.JoinKind.TheVariants as join
use Rattle.jp_problem.specs.declared.types.Problem.{Problem}
use Rattle.jp_problem.specs.declared.types.Item.{Item}
use Rattle.jp_problem.specs.declared.types.Special.{Special}
use Rattle.jp_problem.specs.Made.{HasStatedRows}
use Rattle.jp_problem.specs.Sets.{meets}
use Rattle.jp_cost.specs.declared.conditions.Pick.{Pick}
use Rattle.jp_cost.specs.declared.conditions.Pick.TheVariants as pick
use Rattle.jp_cost.specs.Estimates.{at_most, core, core_rows, counted_expr, counted_in, divided, divided_by, divided_by_all, divisor, ending_at, estimate_in, filtered_by, is_picked, join_rows, joined, outermost_in, rows_from, with_item}

abbrev InRange : ℕ → Type 0
InRange n = (1 ≤ n) × (n ≤ 2 ^ 60)

divided_range : (rows by : ℕ) → InRange rows → InRange (divided rows by)
divided_range rows by r = (omega arith, omega (arith, div-le_self rows by, r.1, r.0))

all_range : (problem : Problem) (rows : ℕ) (conditions : List Expr) → InRange rows → InRange (divided_by_all problem rows conditions)
all_range problem rows [] r = r
all_range problem rows (e ∷ es) r = all_range problem (divided_by problem rows e) es (divided_range rows (divisor problem e) r)

filtered_range : (problem : Problem) (set : ℕ) (which : Pick) (rows : ℕ) → InRange rows → InRange (filtered_by problem set which rows)
filtered_range problem set which rows r = all_range problem rows (map counted_expr (filter (is_picked which) (counted_in problem set))) r

product_range : (a b : ℕ) → 1 ≤ a → 1 ≤ b → InRange (at_most (a * b))
product_range a b some_a some_b = (le-min {k = 1} {a = 2 ^ 60} {b = a * b} (omega arith) (mul-pos {m = a} {n = b} some_a some_b), min-le_left (2 ^ 60) (a * b))

item_range : (problem : Problem) (set rows i : ℕ) (item : Item) → InRange rows → HasStatedRows item → InRange (with_item problem set rows i item)
item_range problem set rows i item r stated = by (meets (core problem set) (2 ^ i))
  where
    by : (b : Bool) → InRange (if b then filtered_by problem set (ending_at (core problem set) i) (at_most (rows * item.rows)) else rows)
    by true = filtered_range problem set (ending_at (core problem set) i) (at_most (rows * item.rows)) (product_range rows item.rows r.0 stated.0)
    by false = r

items_range : (problem : Problem) (set rows i : ℕ) (items : List Item) → InRange rows → All HasStatedRows items → InRange (rows_from problem set rows i items)
items_range problem set rows i [] r stated = r
items_range problem set rows i (item ∷ items) r stated = items_range problem set (with_item problem set rows i item) (suc i) items (item_range problem set rows i item r (All-head HasStatedRows item items stated)) (All-tail HasStatedRows item items stated)

module _ (problem : Problem) (smaller : ℕ → ℕ) (in_range : (set : ℕ) → InRange (smaller set)) where
  join_range : (rows : ℕ) (s : Special) → InRange rows → InRange (join_rows problem smaller rows s)
  join_range rows s r = by s.kind
    where
      half : InRange (divided rows 2)
      half = divided_range rows 2 r

      by : (k : JoinKind) → InRange (joined problem smaller k rows s)
      by join.Left =
          let matches = all_range problem (at_most (rows * smaller s.min_right)) s.on (product_range rows (smaller s.min_right) r.0 (in_range s.min_right).0) in
          (omega (arith, r.0), omega (arith, r.1, matches.1))
      by join.Inner = half
      by join.Right = half
      by join.Full = half
      by join.Semi = half
      by join.Anti = half

  joins_range : (rows : ℕ) (joins : List Special) → InRange rows → InRange (fold (join_rows problem smaller) rows joins)
  joins_range rows [] r = r
  joins_range rows (s ∷ joins) r = joins_range (join_rows problem smaller rows s) joins (join_range rows s r)

pub rounds_range : (problem : Problem) → All HasStatedRows problem.items → (rounds set : ℕ) → InRange (estimate_in rounds problem set)
unfolding estimate_in
rounds_range problem stated zero set = (omega arith, omega arith)
rounds_range problem stated (suc rounds) set =
    filtered_range problem set (pick.Beyond (core problem set)) (fold (join_rows problem (estimate_in rounds problem)) (core_rows problem set) (outermost_in problem set))
    (joins_range problem (estimate_in rounds problem) (λ s. rounds_range problem stated rounds s) (core_rows problem set) (outermost_in problem set)
    (items_range problem set 1 0 problem.items (omega arith, omega arith) stated))
