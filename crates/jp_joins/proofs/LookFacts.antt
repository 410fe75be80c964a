-- Looking tuples up by their key finds each match.
use Rattle.std.proofs.Common.{◌≡◌, ◌∙◌, ap, ap₂, sym, subst, refl, ℕ, ◌<◌, inl, inr, Bool, true, false, cond, ◌&&◌, ◌||◌, List, [], ◌∷◌, not, filter, length, get_or}
use Rattle.std.specs.Prelude.{All, Contains}
use Rattle.jp_base.specs.declared.truth.Truth.{Truth}
use Rattle.jp_base.specs.declared.truth.Truth.TheVariants.{True, False, Unknown}
use Rattle.jp_base.specs.declared.values.Value.{Value}
use Rattle.jp_base.specs.declared.values.Value.TheVariants as value
use Rattle.jp_base.specs.Truth.{truth_of_bool}
use Rattle.jp_base.specs.Values.{are_equal}
use Rattle.jp_facts.proofs.Members.{In, to_in, from_in}
use Rattle.jp_query.specs.declared.CmpOp.TheVariants as cmp
use Rattle.jp_query.specs.declared.Expr.{Expr}
use Rattle.jp_query.specs.declared.JoinKind.{JoinKind}
use Rattle.jp_query.specs.declared.JoinKind.TheVariants as join
use Rattle.jp_query.specs.Meaning.{ValueIn, Tuples, SortKey, RowsIn, given, no_tables, expr_value, tree_tuples, order_key, output_value, query_rows}
use Rattle.jp_query.specs.Operators.{compared, is_true, truth_of_value, value_of_truth}
use Rattle.jp_query.proofs.FoldLaws as laws
use Rattle.jp_problem.specs.Equalities.{equals}
use Rattle.jp_frame.specs.Maps.{Map, both}
use Rattle.jp_frame.specs.Methods.{is_matched, left_rows, matches, once_where}
use Rattle.jp_joins.specs.Conditions.{CanLookUpBy}
use Rattle.jp_joins.specs.Keys.{has_value, tuple_has}
use Rattle.jp_joins.specs.Meant.{Meant, is_match, left_gives, list_holds, value_at}
use Rattle.jp_joins.specs.Tuples.{map_of, maps_of}
use Rattle.jp_joins.specs.Working.{truth_at}
use Rattle.jp_joins.specs.declared.tuples.Tuple.{Tuple}
use Rattle.jp_joins.proofs.HoldsFacts.{holds_first}
use Rattle.jp_joins.proofs.JoinFacts.{of_tuples}
use Rattle.jp_joins.proofs.KeyFacts.{equal_turned}

-- ---- an equality that holds

truth_back : (t : Truth) → is_true (truth_of_value (value_of_truth t)) ≡ is_true t
truth_back True = refl
truth_back False = refl
truth_back Unknown = refl

bool_back : (b : Bool) → is_true (truth_of_bool b) ≡ b
bool_back true = refl
bool_back false = refl

compared_equal : (x y : Value) → is_true (compared cmp.Eq x y) ≡ are_equal x y
compared_equal value.Null y = refl
compared_equal (value.Num a) value.Null = refl
compared_equal (value.Num a) (value.Num b) = bool_back (are_equal (value.Num a) (value.Num b))
compared_equal (value.Num a) (value.Bool b) = refl
compared_equal (value.Num a) (value.Text b) = refl
compared_equal (value.Bool a) value.Null = refl
compared_equal (value.Bool a) (value.Num b) = refl
compared_equal (value.Bool a) (value.Bool b) = bool_back (are_equal (value.Bool a) (value.Bool b))
compared_equal (value.Bool a) (value.Text b) = refl
compared_equal (value.Text a) value.Null = refl
compared_equal (value.Text a) (value.Num b) = refl
compared_equal (value.Text a) (value.Bool b) = refl
compared_equal (value.Text a) (value.Text b) = bool_back (are_equal (value.Text a) (value.Text b))

both_true : (a b : Bool) → (a && b) ≡ true → (a ≡ true) × (b ≡ true)
both_true true b e = (refl, e)
both_true false b e = absurd (cc)

module _ (meant : Meant) (m : Map) where
  pub equals_at : (a b : Expr) → is_true (truth_at meant m (equals a b)) ≡ are_equal (value_at meant m a) (value_at meant m b)
  equals_at a b = ap (λ (v : ValueIn). is_true (truth_of_value (v (meant.environment m))))
      (laws.at-Compare ValueIn Tuples SortKey ValueIn RowsIn (expr_value (given (meant.sublink_rows m))) (tree_tuples no_tables) order_key output_value query_rows cmp.Eq a b)
      ∙ truth_back (compared cmp.Eq (value_at meant m a) (value_at meant m b)) ∙ compared_equal (value_at meant m a) (value_at meant m b)

  pub held_in : (conds : List Expr) (e : Expr) → In e conds → list_holds meant conds m ≡ true → is_true (truth_at meant m e) ≡ true
  held_in [] e h all = absurd h
  held_in (x ∷ xs) e (inl p) all = subst (λ y. is_true (truth_at meant m y) ≡ true) p (both_true (is_true (truth_at meant m x)) (list_holds meant xs m) (sym (holds_first meant m x xs) ∙ all)).0
  held_in (x ∷ xs) e (inr q) all = held_in xs e q (both_true (is_true (truth_at meant m x)) (list_holds meant xs m) (sym (holds_first meant m x xs) ∙ all)).1

  equal_on : (conds : List Expr) (a b : Expr) → Contains conds (equals a b) → list_holds meant conds m ≡ true → are_equal (value_at meant m a) (value_at meant m b) ≡ true
  equal_on conds a b there all = sym (equals_at a b) ∙ held_in conds (equals a b) (to_in (equals a b) conds there) all

-- ---- lists of which all that match have the key

pub no_true : (t : Bool) → (t ≡ true → false ≡ true) → t ≡ false
no_true true h = sym (h refl)
no_true false h = refl

module _ (test : Map → Bool) (a : Map) (same : Map → Bool) where
  pick_matches : (b : Map) (found all : List Map) (s : Bool) → (test (both a b) ≡ true → s ≡ true) → matches test found a ≡ matches test all a → matches test (cond s (b ∷ found) found) a ≡ matches test (b ∷ all) a
  pick_matches b found all true h e = ap (λ xs. cond (test (both a b)) (both a b ∷ xs) xs) e
  pick_matches b found all false h e = e ∙ sym (ap (λ t. cond t (both a b ∷ matches test all a) (matches test all a)) (no_true (test (both a b)) h))

  pick_matched : (b : Map) (found all : List Map) (s : Bool) → (test (both a b) ≡ true → s ≡ true) → is_matched test found a ≡ is_matched test all a → is_matched test (cond s (b ∷ found) found) a ≡ is_matched test (b ∷ all) a
  pick_matched b found all true h e = ap (λ x. test (both a b) || x) e
  pick_matched b found all false h e = e ∙ sym (ap (λ t. t || is_matched test all a) (no_true (test (both a b)) h))

  matches_found : (right : List Map) → ((b : Map) → In b right → test (both a b) ≡ true → same b ≡ true) → matches test (filter same right) a ≡ matches test right a
  matches_found [] h = refl
  matches_found (b ∷ right) h = pick_matches b (filter same right) right (same b) (h b (inl refl)) (matches_found right (λ x p. h x (inr p)))

  matched_found : (right : List Map) → ((b : Map) → In b right → test (both a b) ≡ true → same b ≡ true) → is_matched test (filter same right) a ≡ is_matched test right a
  matched_found [] h = refl
  matched_found (b ∷ right) h = pick_matched b (filter same right) right (same b) (h b (inl refl)) (matched_found right (λ x p. h x (inr p)))

  pub gives_found : (kind : JoinKind) (right : List Map) → ((b : Map) → In b right → test (both a b) ≡ true → same b ≡ true) → left_gives kind test (filter same right) a ≡ left_gives kind test right a
  gives_found join.Inner right h = matches_found right h
  gives_found join.Left right h = ap (left_rows a) (matches_found right h)
  gives_found join.Right right h = refl
  gives_found join.Full right h = refl
  gives_found join.Semi right h = ap (λ b. once_where b a) (matched_found right h)
  gives_found join.Anti right h = ap (λ b. once_where (not b) a) (matched_found right h)

-- ---- the tuples that are looked up

module _ (p : Map → Bool) where
  pick_map : (t : Tuple) (ts : List Tuple) (rest : List Map) (b : Bool) → maps_of ts ≡ rest → maps_of (cond b (t ∷ ts) ts) ≡ cond b (map_of t ∷ rest) rest
  pick_map t ts rest true e = ap (λ ms. map_of t ∷ ms) e
  pick_map t ts rest false e = e

  pub maps_filtered : (ts : List Tuple) → maps_of (filter (λ t. p (map_of t)) ts) ≡ filter p (maps_of ts)
  maps_filtered [] = refl
  maps_filtered (t ∷ ts) = pick_map t (filter (λ u. p (map_of u)) ts) (filter p (maps_of ts)) (p (map_of t)) (maps_filtered ts)

all_in : (P : Map → Type 0) (ms : List Map) (m : Map) → All P ms → In m ms → P m
all_in P ms m all h = let c = from_in m ms h in subst P c.2 (all c.0 m c.1)

module _ (meant : Meant) (first second : Expr) (lefts rights : List Tuple) (look : CanLookUpBy meant first second (maps_of lefts) (maps_of rights)) where
  -- a match has equal sides
  sides_equal : (m : Map) → is_match meant m ≡ true → are_equal (value_at meant m first) (value_at meant m second) ≡ true
  sides_equal m all = elim look.equality [
    | inl there ↦ equal_on meant m meant.on first second there all
    | inr there ↦ equal_turned (value_at meant m first) (value_at meant m second) ∙ equal_on meant m meant.on second first there all
  ]

  -- at a pair each side has the value that it has at its own map
  pub sides_at_pair : (k : ℕ) (d : Tuple) (b : Map) → k < length lefts → In b (maps_of rights)
      → are_equal (value_at meant (both (map_of (get_or lefts k d)) b) first) (value_at meant (both (map_of (get_or lefts k d)) b) second) ≡ are_equal (value_at meant (map_of (get_or lefts k d)) first) (value_at meant b second)
  sides_at_pair k d b h there =
      let a = map_of (get_or lefts k d) in
      let of_first = all_in (λ b. value_at meant (both a b) first ≡ value_at meant a first) (maps_of rights) b (of_tuples (λ a. All (λ b. value_at meant (both a b) first ≡ value_at meant a first) (maps_of rights)) lefts look.first_alone k d h) there in
      let of_second = all_in (λ b. value_at meant (both a b) second ≡ value_at meant b second) (maps_of rights) b (of_tuples (λ a. All (λ b. value_at meant (both a b) second ≡ value_at meant b second) (maps_of rights)) lefts look.second_alone k d h) there in
      ap₂ are_equal of_first of_second

  pub key_of_match : (k : ℕ) (d : Tuple) (b : Map) → k < length lefts → In b (maps_of rights) → is_match meant (both (map_of (get_or lefts k d)) b) ≡ true
      → are_equal (value_at meant (map_of (get_or lefts k d)) first) (value_at meant b second) ≡ true
  key_of_match k d b h there match = sym (sides_at_pair k d b h there) ∙ sides_equal (both (map_of (get_or lefts k d)) b) match

  -- what a left tuple gives with the right tuples that have its key
  pub looked_gives : (k : ℕ) (d : Tuple) (v : Value) (ts : List Tuple) → k < length lefts → v ≡ value_at meant (map_of (get_or lefts k d)) first → ts ≡ filter (tuple_has meant second v) rights
      → left_gives meant.kind (is_match meant) (maps_of ts) (map_of (get_or lefts k d)) ≡ left_gives meant.kind (is_match meant) (maps_of rights) (map_of (get_or lefts k d))
  looked_gives k d v ts h is e =
      let a = map_of (get_or lefts k d) in
      ap (λ ms. left_gives meant.kind (is_match meant) ms a) (ap maps_of e ∙ maps_filtered (has_value meant second v) rights)
      ∙ gives_found (is_match meant) a (has_value meant second v) meant.kind (maps_of rights)
      (λ b there match. ap (λ u. are_equal u (value_at meant b second)) is ∙ key_of_match k d b h there match)
