-- In a list that is sorted by keys, the elements with a key stand side by side.
use Rattle.std.proofs.Common.{◌≡◌, ◌∙◌, ap, sym, subst, refl, ℕ, zero, suc, ◌+◌, ◌-◌, ◌<◌, ◌≤◌, inl, inr, Bool, true, false, cond, not, ◌||◌, List, [], ◌∷◌, ◌++◌, append-nil, map, filter, length, get_or, take, drop, arith}
use Rattle.std.specs.List.{flat_map}
use Rattle.std.specs.declared.cmp.Ordering.{Ordering}
use Rattle.std.specs.declared.cmp.Ordering.TheVariants as ordering
use Rattle.std.specs.Ordering.{is_lt, ordering_reverse}
use Rattle.std.specs.List.Sorted.{IsSortedBy}
use Rattle.std.proofs.Math.Seq.{drop-nil}
use Rattle.std.proofs.lemmas.List.{drop-map, map-append, take-map, take_all, take_more}
use Rattle.std.proofs.lemmas.List.Elements.{Contains-get_or, filter-append}
use Rattle.std.proofs.lemmas.Grind.{flat_map-append}
use Rattle.std.proofs.lemmas.List.Sorted.{sorted_far}
use Rattle.jp_base.specs.Values.{are_equal, total_order_of}
use Rattle.jp_base.specs.declared.values.Value.{Value}
use Rattle.jp_base.specs.declared.values.Value.TheVariants as value
use Rattle.jp_base.proofs.ValueOrder.{equal_is, tie_equal, values_total}
use Rattle.jp_facts.proofs.Members.{In, from_filter, from_in, from_map, to_in}
use Rattle.jp_query.specs.declared.JoinKind.{JoinKind}
use Rattle.jp_query.specs.declared.JoinKind.TheVariants as join
use Rattle.jp_frame.specs.Maps.{Map, both}
use Rattle.jp_frame.specs.Methods.{is_matched, left_rows, matches, once_where}
use Rattle.jp_joins.specs.Meant.{Meant, left_gives}
use Rattle.jp_joins.specs.Sorting.{CanTryEqual, MatchesKey, key_at, key_before, keyed_before, map_of_keyed, tuple_of_keyed, value_of_keyed}
use Rattle.jp_joins.specs.Tuples.{map_of, maps_of}
use Rattle.jp_joins.specs.Working.{CanTry, CanTryAll}
use Rattle.jp_joins.specs.declared.tuples.Tuple.{Tuple}
use Rattle.jp_joins.specs.declared.sorting.Keyed.{Keyed}
use Rattle.jp_joins.proofs.LookFacts.{no_true}
use Rattle.jp_joins.proofs.SortedFacts.{keys_weak, keyed_weak}

-- ---- a run of what passes a test

module _ {X : Type 0} (p : X → Bool) (d : X) where
  none_pass : (xs : List X) → ((k : ℕ) → k < length xs → p (get_or xs k d) ≡ false) → filter p xs ≡ []
  none_pass [] h = refl
  none_pass (x ∷ xs) h = ap (λ b. cond b (x ∷ filter p xs) (filter p xs)) (h 0 (omega arith)) ∙ none_pass xs (λ k low. h (suc k) (omega (arith, low)))

  pub run_is : (xs : List X) (from to : ℕ) → from ≤ to → ((k : ℕ) → k < length xs → k < from → p (get_or xs k d) ≡ false) → ((k : ℕ) → k < length xs → from ≤ k → k < to → p (get_or xs k d) ≡ true)
      → ((k : ℕ) → k < length xs → to ≤ k → p (get_or xs k d) ≡ false) → take (to - from) (drop from xs) ≡ filter p xs
  run_is [] from to low a b c = ap (take (to - from)) (drop-nil from) ∙ take_all (to - from) [] (omega arith)
  run_is (x ∷ xs) zero zero low a b c = sym (none_pass (x ∷ xs) (λ k h. c k h (omega arith)))
  run_is (x ∷ xs) zero (suc to) low a b c =
      let rest = run_is xs 0 to (omega arith) (λ k h l. absurd (omega (arith, l))) (λ k h f l. b (suc k) (omega (arith, h)) (omega arith) (omega (arith, l))) (λ k h l. c (suc k) (omega (arith, h)) (omega (arith, l))) in
      let zero_is : suc to - 0 ≡ suc (to - 0) = omega arith in
      ap (λ n. take n (x ∷ xs)) zero_is ∙ ap (λ ys. x ∷ ys) rest ∙ sym (ap (λ q. cond q (x ∷ filter p xs) (filter p xs)) (b 0 (omega arith) (omega arith) (omega arith)))
  run_is (x ∷ xs) (suc from) zero low a b c = absurd (omega (arith, low))
  run_is (x ∷ xs) (suc from) (suc to) low a b c =
      let rest = run_is xs from to (omega (arith, low)) (λ k h l. a (suc k) (omega (arith, h)) (omega (arith, l))) (λ k h f l. b (suc k) (omega (arith, h)) (omega (arith, f)) (omega (arith, l))) (λ k h l. c (suc k) (omega (arith, h)) (omega (arith, l))) in
      let less : suc to - suc from ≡ to - from = omega arith in
      ap (λ n. take n (drop from xs)) less ∙ rest ∙ sym (ap (λ q. cond q (x ∷ filter p xs) (filter p xs)) (a 0 (omega arith) (omega arith)))

-- ---- keys

before_unequal : (v w : Value) → key_before w v ≡ true → are_equal v w ≡ false
before_unequal v w h = no_true (are_equal v w) (λ e. let same = equal_is v w e in let twice : key_before v v ≡ true = ap (λ x. key_before x v) same ∙ h in sym (keys_weak.one_way v v twice) ∙ twice)

no_less : (o : Ordering) → is_lt o ≡ false → is_lt (ordering_reverse o) ≡ false → o ≡ ordering.Equal
no_less ordering.Less h k = absurd (cc)
no_less ordering.Equal h k = refl
no_less ordering.Greater h k = absurd (cc)

tie : (v w : Value) → is_lt (total_order_of v w) ≡ false → is_lt (total_order_of w v) ≡ false → v ≡ w
tie v w h k = tie_equal v w (no_less (total_order_of v w) h (ap is_lt (sym (values_total.antisymm w v)) ∙ k))

level_equal : (v w : Value) → are_equal v v ≡ true → key_before v w ≡ false → key_before w v ≡ false → v ≡ w
level_equal value.Null w e h k = absurd (cc)
level_equal (value.Num a) value.Null e h k = absurd (cc)
level_equal (value.Num a) (value.Num b) e h k = tie (value.Num a) (value.Num b) h k
level_equal (value.Num a) (value.Bool b) e h k = tie (value.Num a) (value.Bool b) h k
level_equal (value.Num a) (value.Text b) e h k = tie (value.Num a) (value.Text b) h k
level_equal (value.Bool a) value.Null e h k = absurd (cc)
level_equal (value.Bool a) (value.Num b) e h k = tie (value.Bool a) (value.Num b) h k
level_equal (value.Bool a) (value.Bool b) e h k = tie (value.Bool a) (value.Bool b) h k
level_equal (value.Bool a) (value.Text b) e h k = tie (value.Bool a) (value.Text b) h k
level_equal (value.Text a) value.Null e h k = absurd (cc)
level_equal (value.Text a) (value.Num b) e h k = tie (value.Text a) (value.Num b) h k
level_equal (value.Text a) (value.Bool b) e h k = tie (value.Text a) (value.Bool b) h k
level_equal (value.Text a) (value.Text b) e h k = tie (value.Text a) (value.Text b) h k

abbrev pub has_key_of : Value → Keyed → Bool
has_key_of v k = are_equal v (value_of_keyed k)

-- what lies before and at the ends of a run
pub record IsRun (ks : List Keyed) (v : Value) (from to : ℕ) : Type 0 where
  pub ordered : from ≤ to
  pub inside : to ≤ length ks
  pub before : (k : ℕ) (d : Keyed) → k < from → key_before (key_at ks k d) v ≡ true
  pub equal : (k : ℕ) (d : Keyed) → from ≤ k → k < to → are_equal v (key_at ks k d) ≡ true
  pub start : (d : Keyed) → from < length ks → key_before (key_at ks from d) v ≡ false
  pub stop : (d : Keyed) → to < length ks → are_equal v (key_at ks to d) ≡ false

module _ (ks : List Keyed) (up : IsSortedBy keyed_before ks) (v : Value) (from to : ℕ) (run : IsRun ks v from to) (d : Keyed) where
  far : (i j : ℕ) → i ≤ j → j < length ks → key_before (key_at ks j d) (key_at ks i d) ≡ false
  far i j low high = sorted_far keyed_before keyed_weak ks up i j d low high

  -- what stands at the end of the run isn't before the key
  end_not_before : (q : ℕ) → from + q ≡ to → to < length ks → key_before (key_at ks to d) v ≡ false
  end_not_before zero e low = subst (λ n. n < length ks → key_before (key_at ks n d) v ≡ false) (omega (arith, e)) (run.start d) low
  end_not_before (suc q) e low = ap (key_before (key_at ks to d)) (equal_is v (key_at ks from d) (run.equal from d (omega arith) (omega (arith, e)))) ∙ far from to run.ordered low

  after_unequal : (k : ℕ) → k < length ks → to ≤ k → are_equal v (key_at ks k d) ≡ false
  after_unequal k low h = no_true (are_equal v (key_at ks k d)) (λ e.
      let same = equal_is v (key_at ks k d) e in
      let low_end : to < length ks = omega (arith, low, h) in
      let itself : are_equal v v ≡ true = ap (are_equal v) same ∙ e in
      let not_after : key_before v (key_at ks to d) ≡ false = ap (λ x. key_before x (key_at ks to d)) same ∙ far to k h low in
      let at_end : v ≡ key_at ks to d = level_equal v (key_at ks to d) itself not_after (end_not_before (to - from) (omega (arith, run.ordered)) low_end) in
      sym (run.stop d low_end) ∙ ap (are_equal v) (sym at_end) ∙ itself)

  pub run_filters : take (to - from) (drop from ks) ≡ filter (has_key_of v) ks
  run_filters = run_is (has_key_of v) d ks from to run.ordered (λ k low h. before_unequal v (key_at ks k d) (run.before k d h)) (λ k low f h. run.equal k d f h) after_unequal

-- a key before one that isn't after another is before this one too
pub still_before : (u v w : Value) → key_before u v ≡ true → key_before w v ≡ false → key_before u w ≡ true
still_before u v w h k = not_false (key_before u w) (λ e. sym (keys_weak.chain u w v e k) ∙ h)
  where
    not_false : (b : Bool) → (b ≡ false → false ≡ true) → b ≡ true
    not_false true g = refl
    not_false false g = g refl

-- ---- what a left tuple gives with the right tuples of a run

module _ (test : Map → Bool) (a : Map) (p : Keyed → Bool) where
  abbrev maps_in : List Keyed → List Map
  maps_in ks = map map_of_keyed ks

  pick_matches : (k : Keyed) (found all : List Keyed) (s : Bool) → (test (both a (map_of_keyed k)) ≡ true → s ≡ true) → matches test (maps_in found) a ≡ matches test (maps_in all) a → matches test (maps_in (cond s (k ∷ found) found)) a ≡ matches test (maps_in (k ∷ all)) a
  pick_matches k found all true h e = ap (λ xs. cond (test (both a (map_of_keyed k))) (both a (map_of_keyed k) ∷ xs) xs) e
  pick_matches k found all false h e = e ∙ sym (ap (λ t. cond t (both a (map_of_keyed k) ∷ matches test (maps_in all) a) (matches test (maps_in all) a)) (no_true (test (both a (map_of_keyed k))) h))

  pick_matched : (k : Keyed) (found all : List Keyed) (s : Bool) → (test (both a (map_of_keyed k)) ≡ true → s ≡ true) → is_matched test (maps_in found) a ≡ is_matched test (maps_in all) a → is_matched test (maps_in (cond s (k ∷ found) found)) a ≡ is_matched test (maps_in (k ∷ all)) a
  pick_matched k found all true h e = ap (λ x. test (both a (map_of_keyed k)) || x) e
  pick_matched k found all false h e = e ∙ sym (ap (λ t. t || is_matched test (maps_in all) a) (no_true (test (both a (map_of_keyed k))) h))

  matches_run : (ks : List Keyed) → ((k : Keyed) → In k ks → test (both a (map_of_keyed k)) ≡ true → p k ≡ true) → matches test (maps_in (filter p ks)) a ≡ matches test (maps_in ks) a
  matches_run [] h = refl
  matches_run (k ∷ ks) h = pick_matches k (filter p ks) ks (p k) (h k (inl refl)) (matches_run ks (λ x i. h x (inr i)))

  matched_run : (ks : List Keyed) → ((k : Keyed) → In k ks → test (both a (map_of_keyed k)) ≡ true → p k ≡ true) → is_matched test (maps_in (filter p ks)) a ≡ is_matched test (maps_in ks) a
  matched_run [] h = refl
  matched_run (k ∷ ks) h = pick_matched k (filter p ks) ks (p k) (h k (inl refl)) (matched_run ks (λ x i. h x (inr i)))

  pub run_gives : (kind : JoinKind) (ks : List Keyed) → ((k : Keyed) → In k ks → test (both a (map_of_keyed k)) ≡ true → p k ≡ true) → left_gives kind test (maps_in (filter p ks)) a ≡ left_gives kind test (maps_in ks) a
  run_gives join.Inner ks h = matches_run ks h
  run_gives join.Left ks h = ap (left_rows a) (matches_run ks h)
  run_gives join.Right ks h = refl
  run_gives join.Full ks h = refl
  run_gives join.Semi ks h = ap (λ b. once_where b a) (matched_run ks h)
  run_gives join.Anti ks h = ap (λ b. once_where (not b) a) (matched_run ks h)

-- ---- one left tuple more

pub maps_of_tuples : (ks : List Keyed) → maps_of (map tuple_of_keyed ks) ≡ map map_of_keyed ks
maps_of_tuples [] = refl
maps_of_tuples (k ∷ ks) = ap (λ ms. map_of_keyed k ∷ ms) (maps_of_tuples ks)

next_of : (keep : Map → Bool) (gives : Map → List Map) (ks : List Keyed) (i : ℕ) (d : Keyed) (before now : List Map) → i < length ks
    → before ≡ filter keep (flat_map gives (map map_of_keyed (take i ks))) → now ≡ before ++ filter keep (gives (map_of_keyed (get_or ks i d)))
    → now ≡ filter keep (flat_map gives (map map_of_keyed (take (i + 1) ks)))
next_of keep gives ks i d before now h e f =
    let a = map_of_keyed (get_or ks i d) in
    f ∙ ap (λ ms. ms ++ filter keep (gives a)) e ∙ sym (filter-append keep (flat_map gives (map map_of_keyed (take i ks))) (gives a))
    ∙ ap (λ ms. filter keep (flat_map gives (map map_of_keyed (take i ks)) ++ ms)) (sym (append-nil (gives a)))
    ∙ ap (filter keep) (sym (flat_map-append gives (map map_of_keyed (take i ks)) (a ∷ [])))
    ∙ ap (λ ms. filter keep (flat_map gives ms)) (sym (ap (map map_of_keyed) (take_more ks i d h) ∙ map-append map_of_keyed (take i ks) (get_or ks i d ∷ [])))

-- the tuples of a run are those that have the key
run_tuples : (rights : List Keyed) (v : Value) (d : Keyed) (from to : ℕ) (tuples slice : List Tuple) → IsSortedBy keyed_before rights → IsRun rights v from to → tuples ≡ map tuple_of_keyed rights → slice ≡ take (to - from) (drop from tuples)
    → slice ≡ map tuple_of_keyed (filter (has_key_of v) rights)
run_tuples rights v d from to tuples slice up run are is =
    is ∙ ap (λ ts. take (to - from) (drop from ts)) are ∙ ap (take (to - from)) (drop-map tuple_of_keyed from rights) ∙ take-map tuple_of_keyed (to - from) (drop from rights)
    ∙ ap (map tuple_of_keyed) (run_filters rights up v from to run d)

-- and they can be tried
pub run_tries : (meant : Meant) (known : ℕ) (left : Keyed) (rights : List Keyed) (d : Keyed) (from to : ℕ) (tuples slice : List Tuple) → IsSortedBy keyed_before rights → IsRun rights (value_of_keyed left) from to → tuples ≡ map tuple_of_keyed rights → slice ≡ take (to - from) (drop from tuples)
    → CanTryEqual meant known left rights → CanTryAll meant known (tuple_of_keyed left) slice
run_tries meant known left rights d from to tuples slice up run are is tries j e low =
    let v = value_of_keyed left in
    let t = get_or slice j e in
    let of = from_map tuple_of_keyed t (filter (has_key_of v) rights) (subst (In t) (run_tuples rights v d from to tuples slice up run are is) (to_in t slice (Contains-get_or slice j e low))) in
    let has = from_filter (has_key_of v) of.0 rights of.1 in
    let at = from_in of.0 rights has.1 in
    subst (λ (u : Tuple). CanTry meant known (map_of (tuple_of_keyed left)) (map_of u)) of.2
    (subst (λ (x : Keyed). are_equal v (value_of_keyed x) ≡ true → CanTry meant known (map_of_keyed left) (map_of_keyed x)) at.2 (tries at.0 of.0 at.1) has.0)

pub walk_next : (keep test : Map → Bool) (kind : JoinKind) (lefts rights : List Keyed) (tuples slice : List Tuple) (i : ℕ) (d : Keyed) (from to : ℕ) (before now : List Map) → i < length lefts
    → IsSortedBy keyed_before rights → IsRun rights (key_at lefts i d) from to → MatchesKey test (get_or lefts i d) rights → tuples ≡ map tuple_of_keyed rights → slice ≡ take (to - from) (drop from tuples)
    → before ≡ filter keep (flat_map (left_gives kind test (map map_of_keyed rights)) (map map_of_keyed (take i lefts)))
    → now ≡ before ++ filter keep (left_gives kind test (maps_of slice) (map_of_keyed (get_or lefts i d)))
    → now ≡ filter keep (flat_map (left_gives kind test (map map_of_keyed rights)) (map map_of_keyed (take (i + 1) lefts)))
walk_next keep test kind lefts rights tuples slice i d from to before now h up run matching are is e f =
    let left = get_or lefts i d in
    let v = key_at lefts i d in
    let maps : maps_of slice ≡ map map_of_keyed (filter (has_key_of v) rights) =
    ap maps_of (run_tuples rights v d from to tuples slice up run are is) ∙ maps_of_tuples (filter (has_key_of v) rights) in
    let same = run_gives test (map_of_keyed left) (has_key_of v) kind rights (λ k there match. let c = from_in k rights there in subst (λ (x : Keyed). test (both (map_of_keyed left) (map_of_keyed x)) ≡ true → are_equal v (value_of_keyed x) ≡ true) c.2 (matching c.0 k c.1) match) in
    next_of keep (left_gives kind test (map map_of_keyed rights)) lefts i d before now h e (f ∙ ap (λ ms. before ++ filter keep ms) (ap (λ ms. left_gives kind test ms (map_of_keyed left)) maps ∙ same))

-- what was before the key of a left tuple is before those of all later ones
pub before_later : (lefts : List Keyed) (up : IsSortedBy keyed_before lefts) (i j : ℕ) (e : Keyed) (u : Value) → i ≤ j → j < length lefts → key_before u (key_at lefts i e) ≡ true → key_before u (key_at lefts j e) ≡ true
before_later lefts up i j e u low high h = still_before u (key_at lefts i e) (key_at lefts j e) h (sorted_far keyed_before keyed_weak lefts up i j e low high)

-- ---- the next left tuple

split : {P : Type 0} (k from : ℕ) → (k < from → P) → (from ≤ k → P) → P
split k zero f g = g (omega arith)
split zero (suc from) f g = f (omega arith)
split (suc k) (suc from) f g = split k from (λ h. f (omega (arith, h))) (λ h. g (omega (arith, h)))

same_there : (ks : List Keyed) (i : ℕ) (d e : Keyed) → i < length ks → get_or ks i d ≡ get_or ks i e
same_there [] i d e h = absurd (omega (arith, h))
same_there (k ∷ ks) zero d e h = refl
same_there (k ∷ ks) (suc i) d e h = same_there ks i d e (omega (arith, h))

module _ (lefts rights : List Keyed) (up : IsSortedBy keyed_before lefts) (at : ℕ) (d : Keyed) (h : at < length lefts) (old from : ℕ)
    (earlier : (k i : ℕ) (x y : Keyed) → k < old → at ≤ i → i < length lefts → key_before (key_at rights k x) (key_at lefts i y) ≡ true)
    (found : (k : ℕ) (x : Keyed) → old ≤ k → k < from → key_before (key_at rights k x) (key_at lefts at d) ≡ true) where
  pub all_before : (k : ℕ) (x : Keyed) → k < from → key_before (key_at rights k x) (key_at lefts at d) ≡ true
  all_before k x low = split k old (λ l. earlier k at x d l (omega arith) h) (λ l. found k x l low)

  pub before_next : (k i : ℕ) (x y : Keyed) → k < from → at + 1 ≤ i → i < length lefts → key_before (key_at rights k x) (key_at lefts i y) ≡ true
  before_next k i x y low l high = ap (λ z. key_before (key_at rights k x) (value_of_keyed z)) (same_there lefts i y d high) ∙ before_later lefts up at i d (key_at rights k x) (omega (arith, l)) high (all_before k x low)
