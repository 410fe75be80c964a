-- The conditions of a set that are meant, one at a time.
use Rattle.std.proofs.Common.{◌≡◌, ◌∙◌, ap, sym, refl, ℕ, suc, length, arith, Bool, true, false, cond, List, [], ◌∷◌, ◌++◌, map, filter, fold}
use Rattle.std.specs.Prelude.{not, bit_or, if◌then◌else◌}
use Rattle.std.specs.List.{flat_map}
use Rattle.jp_query.specs.declared.CmpOp.TheVariants as cmp
use Rattle.jp_query.specs.declared.Expr.{Expr}
use Rattle.jp_query.specs.declared.Expr.TheVariants as expr
use Rattle.jp_problem.specs.declared.types.Problem.{Problem}
use Rattle.jp_problem.specs.declared.types.Special.{Special}
use Rattle.jp_problem.specs.declared.types.Clause.{Clause}
use Rattle.jp_problem.specs.declared.types.Class.{Class}
use Rattle.jp_problem.specs.Problems.{join_of}
use Rattle.jp_problem.specs.StepClauses.{is_some_done, is_open, is_open_class}
use Rattle.jp_cost.specs.declared.conditions.Pick.{Pick}
use Rattle.jp_cost.specs.Estimates.{divided, divisor_at, Counted, counted_expr, counted_clause, counted_in_class, counts_alone, divided_by, divided_by_all, equal_to, filtered_by, is_available, is_picked, picks, with_first}
use Rattle.jp_cost.specs.Steps.{by_class, by_clause, by_member, is_meant, from_first}

-- a region with a number is open where its join isn't done
pub open_join : (joins : List Special) (set r : ℕ) → is_open joins set (suc r) ≡ not (is_some_done set (join_of joins (suc r)))
open_join joins set r = refl

pub ruleset open_regions = (open_join)

-- ---- folds over filtered lists

fold_append : {X Y : Type 0} (f : Y → X → Y) (start : Y) (xs ys : List X) → fold f start (xs ++ ys) ≡ fold f (fold f start xs) ys
fold_append f start [] ys = refl
fold_append f start (x ∷ xs) ys = fold_append f (f start x) xs ys

map_append : {X Y : Type 0} (f : X → Y) (xs ys : List X) → map f (xs ++ ys) ≡ map f xs ++ map f ys
map_append f [] ys = refl
map_append f (x ∷ xs) ys = ap (λ l. f x ∷ l) (map_append f xs ys)

filter_append : {X : Type 0} (p : X → Bool) (xs ys : List X) → filter p (xs ++ ys) ≡ filter p xs ++ filter p ys
filter_append p [] ys = refl
filter_append p (x ∷ xs) ys = by (p x) (filter_append p xs ys)
  where
    by : (b : Bool) → filter p (xs ++ ys) ≡ filter p xs ++ filter p ys → cond b (x ∷ filter p (xs ++ ys)) (filter p (xs ++ ys)) ≡ cond b (x ∷ filter p xs) (filter p xs) ++ filter p ys
    by true more = ap (λ l. x ∷ l) more
    by false more = more

module _ (problem : Problem) (set : ℕ) (pick : Pick) where
  abbrev after : ℕ → List Counted → ℕ
  after rows counted = divided_by_all problem rows (map counted_expr (filter (is_picked pick) counted))

  after_append : (rows : ℕ) (xs ys : List Counted) → after rows (xs ++ ys) ≡ after (after rows xs) ys
  after_append rows xs ys =
      ap (λ l. divided_by_all problem rows (map counted_expr l)) (filter_append (is_picked pick) xs ys)
      ∙ ap (divided_by_all problem rows) (map_append counted_expr (filter (is_picked pick) xs) (filter (is_picked pick) ys))
      ∙ fold_append (divided_by problem) rows (map counted_expr (filter (is_picked pick) xs)) (map counted_expr (filter (is_picked pick) ys))

  -- ---- clauses

  one_clause : (rows : ℕ) (c : Clause) (b d : Bool) → counts_alone problem.joins set c ≡ b → picks pick c.req ≡ d
      → after rows (cond b (counted_clause c ∷ []) []) ≡ by_clause problem set pick rows c
  unfolding by_clause is_meant
  one_clause rows c true true e f = rw (e, f) refl
  one_clause rows c true false e f = rw (e, f) refl
  one_clause rows c false d e f = rw e refl

  pub clauses_one_by_one : (rows : ℕ) (clauses : List Clause) → after rows (map counted_clause (filter (counts_alone problem.joins set) clauses)) ≡ fold (by_clause problem set pick) rows clauses
  clauses_one_by_one rows [] = refl
  clauses_one_by_one rows (c ∷ clauses) =
      ap (after rows) (split (counts_alone problem.joins set c))
      ∙ after_append rows (cond (counts_alone problem.joins set c) (counted_clause c ∷ []) []) (map counted_clause (filter (counts_alone problem.joins set) clauses))
      ∙ ap (λ r. after r (map counted_clause (filter (counts_alone problem.joins set) clauses))) (one_clause rows c (counts_alone problem.joins set c) (picks pick c.req) refl refl)
      ∙ clauses_one_by_one (by_clause problem set pick rows c) clauses
    where
      split : (b : Bool) → map counted_clause (cond b (c ∷ filter (counts_alone problem.joins set) clauses) (filter (counts_alone problem.joins set) clauses)) ≡ cond b (counted_clause c ∷ []) [] ++ map counted_clause (filter (counts_alone problem.joins set) clauses)
      split true = refl
      split false = refl

  -- ---- classes

  one_class : (rows : ℕ) (c : Class) (b : Bool) → is_open_class problem.joins set c ≡ b → after rows (cond b (counted_in_class set c) []) ≡ by_class problem set pick rows c
  unfolding by_class
  one_class rows c true e = rw e refl
  one_class rows c false e = rw e refl

  pub classes_one_by_one : (rows : ℕ) (classes : List Class) → after rows (flat_map (counted_in_class set) (filter (is_open_class problem.joins set) classes)) ≡ fold (by_class problem set pick) rows classes
  classes_one_by_one rows [] = refl
  classes_one_by_one rows (c ∷ classes) =
      ap (after rows) (split (is_open_class problem.joins set c))
      ∙ after_append rows (cond (is_open_class problem.joins set c) (counted_in_class set c) []) (flat_map (counted_in_class set) (filter (is_open_class problem.joins set) classes))
      ∙ ap (λ r. after r (flat_map (counted_in_class set) (filter (is_open_class problem.joins set) classes))) (one_class rows c (is_open_class problem.joins set c) refl)
      ∙ classes_one_by_one (by_class problem set pick rows c) classes
    where
      split : (b : Bool) → flat_map (counted_in_class set) (cond b (c ∷ filter (is_open_class problem.joins set) classes) (filter (is_open_class problem.joins set) classes)) ≡ cond b (counted_in_class set c) [] ++ flat_map (counted_in_class set) (filter (is_open_class problem.joins set) classes)
      split true = refl
      split false = refl

  pub both_lists : (rows : ℕ) → fold (by_class problem set pick) (fold (by_clause problem set pick) rows problem.clauses) problem.classes ≡ filtered_by problem set pick rows
  both_lists rows = sym (
      after_append rows (map counted_clause (filter (counts_alone problem.joins set) problem.clauses)) (flat_map (counted_in_class set) (filter (is_open_class problem.joins set) problem.classes))
      ∙ ap (λ r. after r (flat_map (counted_in_class set) (filter (is_open_class problem.joins set) problem.classes))) (clauses_one_by_one rows problem.clauses)
      ∙ classes_one_by_one (fold (by_clause problem set pick) rows problem.clauses) problem.classes)

  -- ---- members

  module _ (first : Expr) (needs : ℕ) where
    one_member : (rows : ℕ) (m : Expr × ℕ) (b d : Bool) → is_available set m ≡ b → picks pick (bit_or needs m.1) ≡ d → after rows (cond b (equal_to first needs m ∷ []) []) ≡ by_member problem set pick first needs rows m
    unfolding by_member
    one_member rows m true true e f = rw (e, f) (ap (λ n. divided rows (divisor_at problem n)) (expr.outs-Compare cmp.Eq first m.0))
    one_member rows m true false e f = rw (e, f) refl
    one_member rows m false d e f = rw e refl

    pub members_one_by_one : (rows : ℕ) (members : List (Expr × ℕ)) → after rows (map (equal_to first needs) (filter (is_available set) members)) ≡ fold (by_member problem set pick first needs) rows members
    members_one_by_one rows [] = refl
    members_one_by_one rows (m ∷ members) =
        ap (after rows) (split (is_available set m))
        ∙ after_append rows (cond (is_available set m) (equal_to first needs m ∷ []) []) (map (equal_to first needs) (filter (is_available set) members))
        ∙ ap (λ r. after r (map (equal_to first needs) (filter (is_available set) members))) (one_member rows m (is_available set m) (picks pick (bit_or needs m.1)) refl refl)
        ∙ members_one_by_one (by_member problem set pick first needs rows m) members
      where
        split : (b : Bool) → map (equal_to first needs) (cond b (m ∷ filter (is_available set) members) (filter (is_available set) members)) ≡ cond b (equal_to first needs m ∷ []) [] ++ map (equal_to first needs) (filter (is_available set) members)
        split true = refl
        split false = refl

  -- ---- from the first available member on

  abbrev first_then : ℕ → List (Expr × ℕ) → ℕ
  first_then rows [] = rows
  first_then rows (first ∷ members) = fold (by_member problem set pick first.0 first.1) rows members

  on_first : (rows : ℕ) (members : List (Expr × ℕ)) → after rows (with_first (filter (is_available set) members)) ≡ first_then rows (from_first (is_available set) members)
  on_first rows [] = refl
  on_first rows (m ∷ members) = by (is_available set m) (on_first rows members)
    where
      by : (b : Bool) → after rows (with_first (filter (is_available set) members)) ≡ first_then rows (from_first (is_available set) members)
          → after rows (with_first (cond b (m ∷ filter (is_available set) members) (filter (is_available set) members))) ≡ first_then rows (if b then m ∷ members else from_first (is_available set) members)
      by true more = members_one_by_one m.0 m.1 rows members
      by false more = more

  pub none_first : (rows : ℕ) (members found : List (Expr × ℕ)) → found ≡ from_first (is_available set) members → length found ≡ 0 → rows ≡ after rows (with_first (filter (is_available set) members))
  none_first rows members found is few = sym (on_first rows members ∙ ap (first_then rows) (sym is) ∙ at found few)
    where
      at : (l : List (Expr × ℕ)) → length l ≡ 0 → first_then rows l ≡ rows
      at [] few = refl
      at (x ∷ l) few = absurd (omega (arith, few))

  pub some_first : (rows : ℕ) (members found others : List (Expr × ℕ)) (first : Expr × ℕ) → found ≡ from_first (is_available set) members → found ≡ first ∷ others
      → fold (by_member problem set pick first.0 first.1) rows others ≡ after rows (with_first (filter (is_available set) members))
  some_first rows members found others first is parts = sym (on_first rows members ∙ ap (first_then rows) (sym is ∙ parts))
