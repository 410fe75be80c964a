-- A step between two columns of small numbers can be run by each method.
use Rattle.std.proofs.Common.{◌≡◌, ◌∙◌, ap, ap₂, sym, subst, refl, ℕ, zero, suc, ◌<◌, ◌≤◌, ◌^◌, inl, inr, Option, Some, None, List, [], ◌∷◌, ◌++◌, length, get_or, arith}
use Rattle.std.specs.Prelude.{All, Contains, ◌↔◌, slice_index_or}
use Rattle.std.proofs.lemmas.List.{get_or-map, length-map}
use Rattle.std.proofs.lemmas.List.Elements.{All-append}
use Rattle.jp_base.specs.declared.values.Ty.TheVariants as ty
use Rattle.jp_query.specs.Fitting.{IsCellAt, IsLent, own_columns, own_ins}
use Rattle.jp_query.specs.Meaning.{Env, ValueIn, Tuples, SortKey, RowsIn, cell_in, given, no_tables, expr_value, tree_tuples, order_key, output_value, query_rows}
use Rattle.jp_query.specs.declared.CmpOp.TheVariants as cmp
use Rattle.jp_query.specs.declared.Expr.TheFolds.{fold-roll-Expr}
use Rattle.jp_query.specs.declared.Expr.TheOpen.{Expr-F}
use Rattle.jp_query.specs.declared.Expr.TheVariants as expr
use Rattle.jp_query.specs.Parts.{ColumnRef}
use Rattle.jp_query.specs.Scopes.{Column, Scope}
use Rattle.jp_query.specs.Tables.{IsCellOf}
use Rattle.jp_query.specs.TreeExamples.{col}
use Rattle.jp_query.specs.Typing.{IsBoolean}
use Rattle.jp_query.specs.declared.Expr.{Expr}
use Rattle.jp_query.proofs.TreeRules.{folds}
use Rattle.jp_eval.specs.Evaluation.{CanEvaluate}
use Rattle.jp_problem.specs.declared.types.Step.{Step}
use Rattle.jp_problem.specs.declared.types.Step.TheVariants as step
use Rattle.jp_problem.specs.Equalities.{equals, has_sublink}
use Rattle.jp_query.specs.declared.JoinKind.TheVariants as join
use Rattle.jp_frame.specs.Maps.{Map, at, both}
use Rattle.jp_joins.specs.Conditions.{AreApart, CanEvaluateAt, CanJoin, CanLookUp, CanTest}
use Rattle.jp_joins.specs.Meant.{Meant, value_at}
use Rattle.jp_joins.specs.Tuples.{map_of, maps_of}
use Rattle.jp_joins.specs.declared.tuples.Tuple.{Tuple}
use Rattle.jp_joins_tests.specs.Relations.{IsCondition, IsLeft, IsRight, IsSmall, IsStep, equality, meant_of, right_is_null, row_of, rows_at, same_rows, sublink, value_of_number}
use Rattle.jp_joins_tests.specs.declared.relations.Relations.{Relations}

-- ---- what is visible: both relations, with columns of small numbers

abbrev small_column : Column
small_column = record { type = ty.Number; bound = 2 ^ 32 }

abbrev scope : Scope
scope = record { relation = 0; columns = small_column ∷ [] } ∷ record { relation = 1; columns = small_column ∷ [] } ∷ []

-- ---- a condition can be evaluated at each map

is_cell : (n : Option ℕ) → IsSmall n → IsCellOf small_column (value_of_number n)
is_cell (Some n) h = record { typed = tt; within = h }
is_cell None h = record { typed = tt; within = tt }

small_at : (numbers : List (Option ℕ)) → All IsSmall numbers → (i : ℕ) → IsSmall (slice_index_or numbers i None)
small_at [] all i = tt
small_at (n ∷ numbers) all zero = all 0 None (omega arith)
small_at (n ∷ numbers) all (suc i) = small_at numbers (λ k d low. all (suc k) d (omega (arith, low))) i

is_cell_of : (numbers : List (Option ℕ)) → All IsSmall numbers → (row : Option ℕ) → IsCellOf small_column (cell_in (row_of numbers row) 0)
is_cell_of numbers all (Some i) = is_cell (slice_index_or numbers i None) (small_at numbers all i)
is_cell_of numbers all None = record { typed = tt; within = tt }

abbrev of_left : ColumnRef
of_left = record { relation = 0; column = 0; type = ty.Number }

abbrev of_right : ColumnRef
of_right = record { relation = 1; column = 0; type = ty.Number }

no_members : {X : Type 0} (P : X → Type 0) → All P []
no_members P k d low = absurd (omega (arith, low))

one_member : {X : Type 0} (P : X → Type 0) (x : X) → P x → All P (x ∷ [])
one_member P x p zero d low = p
one_member P x p (suc k) d low = absurd (omega (arith, low))

two_members : {X : Type 0} (P : X → Type 0) (x y : X) → P x → P y → All P (x ∷ y ∷ [])
two_members P x y p q zero d low = p
two_members P x y p q (suc zero) d low = q
two_members P x y p q (suc (suc k)) d low = absurd (omega (arith, low))

module _ (left right : List (Option ℕ)) (small : All IsSmall left) (small' : All IsSmall right) (m : Map) where
  abbrev env : Env
  env = rows_at left right m

  left_cell : IsCellAt scope env of_left
  left_cell = is_cell_of left small (at m 0)

  right_cell : IsCellAt scope env of_right
  right_cell = is_cell_of right small' (at m 1)

  abbrev Can : Expr → Type 0
  Can e = CanEvaluate (same_rows m) e env

  equality_columns : own_columns equality ≡ of_left ∷ of_right ∷ []
  equality_columns = simp folds

  equality_ins : own_ins equality ≡ []
  equality_ins = simp folds

  can_equality : Can equality
  can_equality = record {
    schema = [];
    scope = scope;
    typed = simp folds;
    columns = simp folds;
    bounded = simp folds;
    fits = record {
      cells = subst (All (IsCellAt scope env)) (sym equality_columns) (two_members (IsCellAt scope env) of_left of_right left_cell right_cell);
      lent = subst (All (IsLent (same_rows m))) (sym equality_ins) (no_members (IsLent (same_rows m)));
    };
  }

  sublink_columns : own_columns sublink ≡ []
  sublink_columns = simp folds

  sublink_ins : own_ins sublink ≡ []
  sublink_ins = simp folds

  can_sublink : Can sublink
  can_sublink = record {
    schema = [];
    scope = scope;
    typed = simp folds;
    columns = simp folds;
    bounded = simp folds;
    fits = record {
      cells = subst (All (IsCellAt scope env)) (sym sublink_columns) (no_members (IsCellAt scope env));
      lent = subst (All (IsLent (same_rows m))) (sym sublink_ins) (no_members (IsLent (same_rows m)));
    };
  }

  test_columns : own_columns right_is_null ≡ of_right ∷ []
  test_columns = simp folds

  test_ins : own_ins right_is_null ≡ []
  test_ins = simp folds

  can_test_null : Can right_is_null
  can_test_null = record {
    schema = [];
    scope = scope;
    typed = simp folds;
    columns = simp folds;
    bounded = simp folds;
    fits = record {
      cells = subst (All (IsCellAt scope env)) (sym test_columns) (one_member (IsCellAt scope env) of_right right_cell);
      lent = subst (All (IsLent (same_rows m))) (sym test_ins) (no_members (IsLent (same_rows m)));
    };
  }

  can_left : Can (col 0 0)
  can_left = record {
    schema = [];
    scope = scope;
    typed = simp folds;
    columns = simp folds;
    bounded = simp folds;
    fits = record {
      cells = subst (All (IsCellAt scope env)) (sym left_columns) (one_member (IsCellAt scope env) of_left left_cell);
      lent = subst (All (IsLent (same_rows m))) (sym left_ins) (no_members (IsLent (same_rows m)));
    };
  }
    where
      left_columns : own_columns (col 0 0) ≡ of_left ∷ []
      left_columns = simp folds

      left_ins : own_ins (col 0 0) ≡ []
      left_ins = simp folds

  can_right : Can (col 1 0)
  can_right = record {
    schema = [];
    scope = scope;
    typed = simp folds;
    columns = simp folds;
    bounded = simp folds;
    fits = record {
      cells = subst (All (IsCellAt scope env)) (sym right_columns) (one_member (IsCellAt scope env) of_right right_cell);
      lent = subst (All (IsLent (same_rows m))) (sym right_ins) (no_members (IsLent (same_rows m)));
    };
  }
    where
      right_columns : own_columns (col 1 0) ≡ of_right ∷ []
      right_columns = simp folds

      right_ins : own_ins (col 1 0) ≡ []
      right_ins = simp folds

  can_condition : (e : Expr) → IsCondition e → Can e
  can_condition e (inl is) = subst Can (sym is) can_equality
  can_condition e (inr (inl is)) = subst Can (sym is) can_sublink
  can_condition e (inr (inr is)) = subst Can (sym is) can_test_null

is_boolean : (e : Expr) → IsCondition e → IsBoolean e
is_boolean e (inl is) = subst IsBoolean (sym is) (simp folds)
is_boolean e (inr (inl is)) = subst IsBoolean (sym is) (simp folds)
is_boolean e (inr (inr is)) = subst IsBoolean (sym is) (simp folds)

-- ---- tuples of one relation each

none_past : (m : Map) (i : ℕ) → length m ≡ 2 → 2 ≤ i → at m i ≡ None
none_past [] i e h = absurd (omega (arith, e))
none_past (r ∷ []) i e h = absurd (omega (arith, e))
none_past (r ∷ s ∷ []) zero e h = absurd (omega (arith, h))
none_past (r ∷ s ∷ []) (suc zero) e h = absurd (omega (arith, h))
none_past (r ∷ s ∷ []) (suc (suc i)) e h = refl
none_past (r ∷ s ∷ t ∷ m) i e h = absurd (omega (arith, e))

some_none : {X : Type 0} (o : Option X) (x : X) → o ≡ Some x → o ≡ None → ⊥
some_none o x e f = let contrary : Some x ≡ None = sym e ∙ f in absurd (cc)

are_apart : (a b : Map) → IsLeft a → IsRight b → AreApart a b
are_apart a b left right zero r s e f = some_none (at b 0) s f right.none
are_apart a b left right (suc zero) r s e f = some_none (at a 1) r e left.none
are_apart a b left right (suc (suc i)) r s e f = some_none (at a (suc (suc i))) r e (none_past a (suc (suc i)) left.wide (omega arith))

both_left : (a b : Map) → IsLeft a → IsRight b → at (both a b) 0 ≡ at a 0
both_left [] b left right = absurd (omega (arith, left.wide))
both_left (r ∷ a) [] left right = absurd (omega (arith, right.wide))
both_left (Some r ∷ a) (s ∷ b) left right = refl
both_left (None ∷ a) (s ∷ b) left right = right.none

both_right : (a b : Map) → IsLeft a → IsRight b → at (both a b) 1 ≡ at b 1
both_right [] b left right = absurd (omega (arith, left.wide))
both_right (r ∷ []) b left right = absurd (omega (arith, left.wide))
both_right (r ∷ q ∷ a) [] left right = absurd (omega (arith, right.wide))
both_right (r ∷ q ∷ a) (s ∷ []) left right = absurd (omega (arith, right.wide))
both_right (r ∷ None ∷ a) (s ∷ t ∷ b) left right = refl
both_right (r ∷ Some q ∷ a) (s ∷ t ∷ b) left right = absurd (some_none (Some q) q refl left.none)

-- ---- the step

module _ (s : Relations) (is : IsStep s) where
  abbrev meant : Meant
  meant = meant_of s

  can_all : (m : Map) (conds : List Expr) → All IsCondition conds → All (CanEvaluateAt meant m) conds
  can_all m conds all k d low = can_condition s.left.now s.right.now is.left is.right m (get_or conds k d) (all k d low)

  pub can_test : (m : Map) → CanTest meant m
  can_test m = record {
    key = two_members (CanEvaluateAt meant m) s.first s.second (subst (CanEvaluateAt meant m) (sym is.first) (can_left s.left.now s.right.now is.left is.right m)) (subst (CanEvaluateAt meant m) (sym is.second) (can_right s.left.now s.right.now is.left is.right m));
    on = can_all m s.on is.on;
    filters = can_all m s.filters is.filters;
  }

  of_column : (m : Map) (rel : ℕ) → value_at meant m (col rel 0) ≡ cell_in (rows_at s.left.now s.right.now m rel) 0
  of_column m rel = ap (λ (v : ValueIn). v (meant.environment m)) (fold-roll-Expr ValueIn Tuples SortKey ValueIn RowsIn (expr_value (given (meant.sublink_rows m))) (tree_tuples no_tables) order_key output_value query_rows (Expr-F.Col rel 0 ty.Number 0))

  left_value : (m : Map) → value_at meant m s.first ≡ cell_in (row_of s.left.now (at m 0)) 0
  left_value m = ap (value_at meant m) is.first ∙ of_column m 0

  right_value : (m : Map) → value_at meant m s.second ≡ cell_in (row_of s.right.now (at m 1)) 0
  right_value m = ap (value_at meant m) is.second ∙ of_column m 1

  module _ (lefts rights : List Map) (left : All IsLeft lefts) (right : All IsRight rights) where
    pub can_join : (asked : Step) → ((s.kind ≡ join.Inner) ↔ (asked ≡ step.Inner)) → CanJoin meant asked lefts rights
    can_join asked kind = record {
      kind = kind;
      width = 2;
      left_width = λ k d low. (left k d low).wide;
      right_width = λ k d low. (right k d low).wide;
      apart = λ k d low j e below. are_apart (get_or lefts k d) (get_or rights j e) (left k d low) (right j e below);
      left_test = λ k d low. can_test (get_or lefts k d);
      right_test = λ k d low. can_test (get_or rights k d);
      pair_test = λ k d low j e below. can_test (both (get_or lefts k d) (get_or rights j e));
      on_booleans = λ k d low. is_boolean (get_or s.on k d) (is.on k d low);
      filter_booleans = λ k d low. is_boolean (get_or s.filters k d) (is.filters k d low);
    }

    alone : (a b : Map) → IsLeft a → IsRight b → (value_at meant (both a b) s.first ≡ value_at meant a s.first) × (value_at meant (both a b) s.second ≡ value_at meant b s.second)
    alone a b l r = (
      left_value (both a b) ∙ ap (λ row. cell_in (row_of s.left.now row) 0) (both_left a b l r) ∙ sym (left_value a),
      right_value (both a b) ∙ ap (λ row. cell_in (row_of s.right.now row) 0) (both_right a b l r) ∙ sym (right_value b),
    )

    pub can_look_up : CanLookUp meant lefts rights
    can_look_up = record {
      first = s.first;
      second = s.second;
      key = refl;
      by = record {
        first_plain = ap has_sublink is.first ∙ simp folds;
        second_plain = ap has_sublink is.second ∙ simp folds;
        equality = inl (subst (Contains s.on) (sym as_equals) is.equality);
        first_alone = λ k d low j e below. (alone (get_or lefts k d) (get_or rights j e) (left k d low) (right j e below)).0;
        second_alone = λ k d low j e below. (alone (get_or lefts k d) (get_or rights j e) (left k d low) (right j e below)).1;
      };
    }
      where
        as_equals : equals s.first s.second ≡ equality
        as_equals = ap₂ equals is.first is.second ∙ sym (expr.rolls-Compare cmp.Eq (col 0 0) (col 1 0))

pub all_more : {X : Type 0} (P : X → Type 0) (xs now : List X) (x : X) → All P xs → P x → now ≡ xs ++ x ∷ [] → All P now
all_more P xs now x h p e = subst (All P) (sym e) (All-append P xs (x ∷ []) h (one_member P x p))

-- facts of all maps of tuples
pub of_maps : (P : Map → Type 0) (ts : List Tuple) → All (λ t. P (map_of t)) ts → All P (maps_of ts)
of_maps P ts all k d low =
    let no_tuple : Tuple = record { rows = record { ref_ptr = (0, 0); now = [] } } in
    let inside : k < length ts = omega (arith, low, length-map ts map_of) in
    subst P (sym (get_or-map map_of ts k no_tuple d inside)) (all k no_tuple inside)

-- the conditions of the methods, for tuples
module _ (s : Relations) (is : IsStep s) (lefts rights : List Tuple) (left : All (λ t. IsLeft (map_of t)) lefts) (right : All (λ t. IsRight (map_of t)) rights) where
  pub tuples_join : (asked : Step) → ((s.kind ≡ join.Inner) ↔ (asked ≡ step.Inner)) → CanJoin (meant_of s) asked (maps_of lefts) (maps_of rights)
  tuples_join = can_join s is (maps_of lefts) (maps_of rights) (of_maps IsLeft lefts left) (of_maps IsRight rights right)

  pub tuples_look_up : CanLookUp (meant_of s) (maps_of lefts) (maps_of rights)
  tuples_look_up = can_look_up s is (maps_of lefts) (maps_of rights) (of_maps IsLeft lefts left) (of_maps IsRight rights right)
