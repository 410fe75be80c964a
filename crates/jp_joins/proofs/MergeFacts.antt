-- The conditions of a step hold for its sides in another order.
use Rattle.std.proofs.Common.{◌≡◌, ◌∙◌, ◌<◌, ℕ, ap, ap₂, sym, subst, true, List, length, map, get_or, arith}
use Rattle.std.specs.Prelude.{All}
use Rattle.std.specs.List.Sorted.{IsPermutation}
use Rattle.std.proofs.lemmas.List.Sorted.{All-permutation}
use Rattle.std.proofs.lemmas.List.{get_or-map, length-map}
use Rattle.std.proofs.lemmas.List.Elements.{Contains-get_or}
use Rattle.jp_base.specs.Values.{are_equal}
use Rattle.jp_facts.proofs.Members.{In, in_map, to_in}
use Rattle.jp_query.specs.declared.Expr.{Expr}
use Rattle.jp_problem.specs.declared.types.Step.{Step}
use Rattle.jp_frame.specs.Maps.{Map, both}
use Rattle.jp_frame.specs.Methods.{sorted_by}
use Rattle.jp_joins.specs.Conditions.{AreApart, CanJoin, CanLookUpBy, CanTest}
use Rattle.jp_joins.specs.KeyPlaces.{IsKeyPlace}
use Rattle.jp_joins.specs.Meant.{Meant, is_match, value_at}
use Rattle.jp_joins.specs.Sorting.{CanTryEqual, IsKeyed, MatchesKey, map_of_keyed, stands_before, tuple_of_keyed}
use Rattle.jp_joins.specs.Tuples.{map_of, maps_of}
use Rattle.jp_joins.specs.Working.{CanKeep, CanTry}
use Rattle.jp_joins.specs.declared.sorting.Keyed.{Keyed}
use Rattle.jp_joins.specs.declared.tuples.Tuple.{Tuple}
use Rattle.jp_joins.proofs.JoinFacts.{can_keep, no_tuple}
use Rattle.jp_joins.proofs.LookFacts.{key_of_match}
use Rattle.jp_joins.proofs.TryFacts.{can_try}
use Rattle.jp_joins.proofs.WalkFacts.{maps_of_tuples}
use Rattle.jp_joins.proofs.SortedFacts.{maps_weak, permutes}

-- a fact of all pairs, in another order of both sides
all_pairs : (P : Map → Map → Type 0) (left lefts right rights : List Map) → IsPermutation left lefts → IsPermutation right rights → All (λ a. All (P a) right) left → All (λ a. All (P a) rights) lefts
all_pairs P left lefts right rights p q all = All-permutation (λ a. All (P a) rights) left lefts p (λ k d h. All-permutation (P _) right rights q (all k d h))

module _ (meant : Meant) (left lefts right rights : List Map) (p : IsPermutation left lefts) (q : IsPermutation right rights) where
  pub join_moved : (asked : Step) → CanJoin meant asked left right → CanJoin meant asked lefts rights
  join_moved asked can = record {
    kind = can.kind;
    width = can.width;
    left_width = All-permutation (λ m. length m ≡ can.width) left lefts p can.left_width;
    right_width = All-permutation (λ m. length m ≡ can.width) right rights q can.right_width;
    apart = all_pairs AreApart left lefts right rights p q can.apart;
    left_test = All-permutation (CanTest meant) left lefts p can.left_test;
    right_test = All-permutation (CanTest meant) right rights q can.right_test;
    pair_test = all_pairs (λ a b. CanTest meant (both a b)) left lefts right rights p q can.pair_test;
    on_booleans = can.on_booleans;
    filter_booleans = can.filter_booleans;
  }

  pub look_moved : (first second : Expr) → CanLookUpBy meant first second left right → CanLookUpBy meant first second lefts rights
  look_moved first second look = record {
    first_plain = look.first_plain;
    second_plain = look.second_plain;
    equality = look.equality;
    first_alone = all_pairs (λ a b. value_at meant (both a b) first ≡ value_at meant a first) left lefts right rights p q look.first_alone;
    second_alone = all_pairs (λ a b. value_at meant (both a b) second ≡ value_at meant b second) left lefts right rights p q look.second_alone;
  }

pub sort_moves : (meant : Meant) (side : Expr) (ms : List Map) → IsPermutation ms (sorted_by (stands_before meant side) ms)
sort_moves meant side ms = permutes (stands_before meant side) (maps_weak meant side) ms

-- ---- the sides, sorted, with their keys

module _ (meant : Meant) (asked : Step) (first second : Expr) (left right : List Map) (join : CanJoin meant asked left right) (look : CanLookUpBy meant first second left right) (lefts rights : List Keyed)
    (left_is : map map_of_keyed lefts ≡ sorted_by (stands_before meant first) left) (right_is : map map_of_keyed rights ≡ sorted_by (stands_before meant second) right)
    (left_keys : All (IsKeyed meant first) lefts) (right_keys : All (IsKeyed meant second) rights) where
  abbrev left_tuples : List Tuple
  left_tuples = map tuple_of_keyed lefts

  abbrev right_tuples : List Tuple
  right_tuples = map tuple_of_keyed rights

  left_moved : IsPermutation left (maps_of left_tuples)
  left_moved = subst (IsPermutation left) (sym (maps_of_tuples lefts ∙ left_is)) (sort_moves meant first left)

  right_moved : IsPermutation right (maps_of right_tuples)
  right_moved = subst (IsPermutation right) (sym (maps_of_tuples rights ∙ right_is)) (sort_moves meant second right)

  can : CanJoin meant asked (maps_of left_tuples) (maps_of right_tuples)
  can = join_moved meant left (maps_of left_tuples) right (maps_of right_tuples) left_moved right_moved asked join

  looks : CanLookUpBy meant first second (maps_of left_tuples) (maps_of right_tuples)
  looks = look_moved meant left (maps_of left_tuples) right (maps_of right_tuples) left_moved right_moved first second look

  in_tuples : (k : ℕ) → k < length lefts → k < length left_tuples
  in_tuples k h = omega (arith, h, length-map lefts tuple_of_keyed)

  tuple_at : (k : ℕ) (d : Keyed) → k < length lefts → get_or left_tuples k no_tuple ≡ tuple_of_keyed (get_or lefts k d)
  tuple_at k d h = get_or-map tuple_of_keyed lefts k d no_tuple h

  pub keeps_all : All (λ k. CanKeep meant (map_of_keyed k)) lefts
  keeps_all k d h = subst (λ t. CanKeep meant (map_of t)) (tuple_at k d h) (can_keep meant asked left_tuples right_tuples can k no_tuple (in_tuples k h))

  pub tries_all : (known : ℕ) → IsKeyPlace meant.on first second known → All (λ left. CanTryEqual meant known left rights) lefts
  tries_all known key k d h j e low equal =
      let b = get_or rights j e in
      let at = tuple_at k d h in
      subst (λ (t : Tuple). CanTry meant known (map_of t) (map_of_keyed b)) at
      (can_try meant asked first second left_tuples right_tuples can looks known key k no_tuple (tuple_of_keyed b) (in_tuples k h) (in_map tuple_of_keyed b rights (to_in b rights (Contains-get_or rights j e low)))
      (ap₂ are_equal (ap (λ (t : Tuple). value_at meant (map_of t) first) at ∙ sym (left_keys k d h)) (sym (right_keys j e low)) ∙ equal))

  right_there : (j : ℕ) (e : Keyed) → j < length rights → In (map_of_keyed (get_or rights j e)) (maps_of right_tuples)
  right_there j e low = subst (λ ms. In (map_of_keyed (get_or rights j e)) ms) (sym (maps_of_tuples rights)) (in_map map_of_keyed (get_or rights j e) rights (to_in (get_or rights j e) rights (Contains-get_or rights j e low)))

  pub keys_match : All (λ left. MatchesKey (is_match meant) left rights) lefts
  keys_match k d h j e low match =
      let a = get_or lefts k d in
      let b = get_or rights j e in
      let at = tuple_at k d h in
      let equal = subst (λ (t : Tuple). is_match meant (both (map_of t) (map_of_keyed b)) ≡ true → are_equal (value_at meant (map_of t) first) (value_at meant (map_of_keyed b) second) ≡ true) at
      (key_of_match meant first second left_tuples right_tuples looks k no_tuple (map_of_keyed b) (in_tuples k h) (right_there j e low)) match in
      ap₂ are_equal (left_keys k d h) (right_keys j e low) ∙ equal
