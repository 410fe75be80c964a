-- How many joins come to be done at a step, and which, by numbers and sums of places.
use Rattle.std.proofs.Common.{◌≡◌, ◌≢◌, ◌∙◌, sym, ap, ap₂, subst, refl, ℕ, suc, ◌+◌, ◌-◌, ◌<◌, ◌≤◌, inl, inr, Bool, true, false, not, ◌&&◌, cond, arith, List, [], ◌∷◌, length, Option, Some, None}
use Rattle.std.specs.Prelude.{bit_or, All, slice_get, find, count_by, if◌then◌else◌}
use Rattle.std.proofs.lemmas.Bool.{ne_eqb, both_ways, and_from}
use Rattle.std.proofs.lemmas.List.Elements.{All-head, All-tail}
use Rattle.std.proofs.lemmas.List.Sums.{sum_by-cons}
use Rattle.std.proofs.lemmas.Option.{slice_get_cases}
use Rattle.jp_base.proofs.MaskAlgebra.{in_left, in_right}
use Rattle.jp_problem.specs.declared.types.Special.{Special}
use Rattle.jp_problem.specs.declared.types.Step.TheVariants.{Inner}
use Rattle.jp_problem.specs.Legal.{Apart}
use Rattle.jp_problem.specs.LegalTests.{is_joinable, is_new, is_between, kind_by, kind_of, are_joinable, step_of}
use Rattle.jp_problem.specs.Made.{HasApartSets}
use Rattle.jp_problem.specs.Sets.{meets}
use Rattle.jp_problem.specs.StepClauses.{is_done}
use Rattle.jp_problem.proofs.LegalLaws.{is_done_says}
use Rattle.jp_problem.proofs.SetTests.{apart_says}
use Rattle.jp_facts.proofs.Members.{In}
use Rattle.jp_search.specs.declared.joins.Facts.{Facts}
use Rattle.jp_search.specs.Joins.{facts_of, places_of, by_join}

-- ---- the sum of places

module _ {X : Type 0} (p : X → Bool) where
  count : List X → ℕ
  count [] = 0
  count (x ∷ xs) = cond (p x) 1 0 + count xs

  counted : (xs : List X) → count_by p xs ≡ count xs
  unfolding count
  counted [] = refl
  counted (x ∷ xs) = sum_by-cons (λ y. cond (p y) 1 0) x xs ∙ ap (λ n. cond (p x) 1 0 + n) (counted xs)

  -- none passes
  none_pass : (first : ℕ) (xs : List X) → count xs ≡ 0 → (places_of p first xs ≡ 0) × (find p xs ≡ None)
  unfolding count
  none_pass first [] e = (refl, refl)
  none_pass first (x ∷ xs) e = go (p x) e (λ z. none_pass (suc first) xs z)
    where
      go : (b : Bool) → cond b 1 0 + count xs ≡ 0 → (count xs ≡ 0 → (places_of p (suc first) xs ≡ 0) × (find p xs ≡ None)) → ((if b then first else 0) + places_of p (suc first) xs ≡ 0) × (cond b (Some x) (find p xs) ≡ None)
      go true z rest = absurd (omega (arith, z))
      go false z rest = let more = rest (omega (arith, z)) in (omega (arith, more.0), more.1)

  -- one passes, and the sum is its place
  one_passes : (first : ℕ) (xs : List X) → count xs ≡ 1 → (k : ℕ) × (places_of p first xs ≡ first + k) × (k < length xs) × (find p xs ≡ slice_get xs k)
  unfolding count
  one_passes first [] e = absurd (omega (arith, e))
  one_passes first (x ∷ xs) e = go (p x) e (λ z. none_pass (suc first) xs z) (λ z. one_passes (suc first) xs z)
    where
      go : (b : Bool) → cond b 1 0 + count xs ≡ 1 → (count xs ≡ 0 → (places_of p (suc first) xs ≡ 0) × (find p xs ≡ None)) → (count xs ≡ 1 → (k : ℕ) × (places_of p (suc first) xs ≡ suc first + k) × (k < length xs) × (find p xs ≡ slice_get xs k)) → (k : ℕ) × ((if b then first else 0) + places_of p (suc first) xs ≡ first + k) × (k < length (x ∷ xs)) × (cond b (Some x) (find p xs) ≡ slice_get (x ∷ xs) k)
      go true z none rest = let more = none (omega (arith, z)) in (0, omega (arith, more.0), omega arith, refl)
      go false z none rest = let more = rest (omega (arith, z)) in (suc more.0, omega (arith, more.1), omega (arith, more.2), more.3)

  -- where several pass one is found
  some_found : (xs : List X) → find p xs ≡ None → count xs ≡ 0
  unfolding count
  some_found [] e = refl
  some_found (x ∷ xs) e = go (p x) e (λ z. some_found xs z)
    where
      go : (b : Bool) → cond b (Some x) (find p xs) ≡ None → (find p xs ≡ None → count xs ≡ 0) → cond b 1 0 + count xs ≡ 0
      go true z rest = absurd (some_none x z)
        where
          some_none : (x : X) → Some x ≡ None → ⊥
          some_none x e = cc
      go false z rest = omega (arith, rest z)

-- ---- the joins of a union of two disjoint sets

all_in : {X : Type 0} (P : X → Type 0) (xs : List X) → All P xs → (x : X) → In x xs → P x
all_in P [] all x x_in = absurd x_in
all_in P (y ∷ ys) all x (inl e) = subst P e (All-head P y ys all)
all_in P (y ∷ ys) all x (inr r) = all_in P ys (All-tail P y ys all) x r

count_sum : {X : Type 0} (u a b n : X → Bool) (xs : List X) → ((x : X) → In x xs → cond (u x) 1 0 ≡ cond (a x) 1 0 + cond (b x) 1 0 + cond (n x) 1 0) → count u xs ≡ count a xs + count b xs + count n xs
unfolding count
count_sum u a b n [] each = refl
count_sum u a b n (x ∷ xs) each = omega (arith, each x (inl refl), count_sum u a b n xs (λ y y_in. each y (inr y_in)))

places_sum : {X : Type 0} (u a b n : X → Bool) (first : ℕ) (xs : List X) → ((x : X) → In x xs → (w : ℕ) → (if u x then w else 0) ≡ (if a x then w else 0) + (if b x then w else 0) + (if n x then w else 0)) → places_of u first xs ≡ places_of a first xs + places_of b first xs + places_of n first xs
places_sum u a b n first [] each = refl
places_sum u a b n first (x ∷ xs) each = omega (arith, each x (inl refl) first, places_sum u a b n (suc first) xs (λ y y_in. each y (inr y_in)))

module _ (left right : ℕ) (apart : Apart left right) where
  -- done in one of them, or newly done
  one_of : (s : Special) → HasApartSets s → (w : ℕ) → (if is_done (bit_or left right) s then w else 0) ≡ (if is_done left s then w else 0) + (if is_done right s then w else 0) + (if is_new left right s then w else 0)
  unfolding is_new
  one_of s sets w = go (is_done left s) (is_done right s) (is_done (bit_or left right) s) refl refl refl
    where
      done : ℕ → Type 0
      done set = is_done set s ≡ true

      up_left : done left → done (bit_or left right)
      up_left e = let d = (is_done_says left s).0 e in (is_done_says (bit_or left right) s).1 (record { left = λ i h. in_left left right i (d.left i h); right = λ i h. in_left left right i (d.right i h) })

      up_right : done right → done (bit_or left right)
      up_right e = let d = (is_done_says right s).0 e in (is_done_says (bit_or left right) s).1 (record { left = λ i h. in_right left right i (d.left i h); right = λ i h. in_right left right i (d.right i h) })

      not_both : done left → done right → ⊥
      not_both e f = apart (sets.0.0, ((is_done_says left s).0 e).left sets.0.0 sets.0.1, ((is_done_says right s).0 f).left sets.0.0 sets.0.1)

      go : (a b u : Bool) → is_done left s ≡ a → is_done right s ≡ b → is_done (bit_or left right) s ≡ u → (if u then w else 0) ≡ (if a then w else 0) + (if b then w else 0) + (if (u && (not a && not b)) then w else 0)
      go true true u e f g = absurd (not_both e f)
      go true false false e f g = absurd (both_ways (is_done (bit_or left right) s) g (up_left e))
      go true false true e f g = omega arith
      go false true false e f g = absurd (both_ways (is_done (bit_or left right) s) g (up_right f))
      go false true true e f g = omega arith
      go false false true e f g = omega arith
      go false false false e f g = omega arith

  module _ (joins : List Special) (sets : All HasApartSets joins) where
    each : (s : Special) → In s joins → HasApartSets s
    each = all_in HasApartSets joins sets

    pub counts : count_by (is_done (bit_or left right)) joins ≡ count_by (is_done left) joins + count_by (is_done right) joins + count_by (is_new left right) joins
    counts = counted (is_done (bit_or left right)) joins ∙ count_sum (is_done (bit_or left right)) (is_done left) (is_done right) (is_new left right) joins (λ s s_in. one_of s (each s s_in) 1)
        ∙ sym (ap₂ (λ x y. x + y) (ap₂ (λ x y. x + y) (counted (is_done left) joins) (counted (is_done right) joins)) (counted (is_new left right) joins))

    pub places : places_of (is_done (bit_or left right)) 0 joins ≡ places_of (is_done left) 0 joins + places_of (is_done right) 0 joins + places_of (is_new left right) 0 joins
    places = places_sum (is_done (bit_or left right)) (is_done left) (is_done right) (is_new left right) 0 joins (λ s s_in. one_of s (each s s_in))

-- ---- the kind of a step

module _ (joins : List Special) (sets : All HasApartSets joins) (left right : ℕ) (apart : Apart left right)
    (of_left of_right of_both : Facts) (on_left : of_left ≡ facts_of joins left) (on_right : of_right ≡ facts_of joins right) (on_both : of_both ≡ facts_of joins (bit_or left right)) where
  done_is : of_both.done ≡ of_left.done + of_right.done + count_by (is_new left right) joins
  done_is = ap (λ (f : Facts). f.done) on_both ∙ counts left right apart joins sets ∙ sym (ap₂ (λ a b. a + b + count_by (is_new left right) joins) (ap (λ (f : Facts). f.done) on_left) (ap (λ (f : Facts). f.done) on_right))

  places_is : of_both.places ≡ of_left.places + of_right.places + places_of (is_new left right) 0 joins
  places_is = ap (λ (f : Facts). f.places) on_both ∙ places left right apart joins sets ∙ sym (ap₂ (λ a b. a + b + places_of (is_new left right) 0 joins) (ap (λ (f : Facts). f.places) on_left) (ap (λ (f : Facts). f.places) on_right))

  pub left_less : of_left.done ≤ of_both.done
  left_less = omega (arith, done_is)

  pub right_less : of_right.done ≤ of_both.done - of_left.done
  right_less = omega (arith, done_is)

  pub left_sum : of_left.places ≤ of_both.places
  left_sum = omega (arith, places_is)

  pub right_sum : of_right.places ≤ of_both.places - of_left.places
  right_sum = omega (arith, places_is)

  count_is : of_both.done - of_left.done - of_right.done ≡ count_by (is_new left right) joins
  count_is = omega (arith, done_is)

  place_is : of_both.places - of_left.places - of_right.places ≡ places_of (is_new left right) 0 joins
  place_is = omega (arith, places_is)

  not_left : is_joinable joins left ≡ false → are_joinable joins left right ≡ false
  unfolding are_joinable
  not_left e = rw e (go (not (meets left right)))
    where
      go : (b : Bool) → (b && false) ≡ false
      go true = refl
      go false = refl

  not_right : is_joinable joins right ≡ false → are_joinable joins left right ≡ false
  unfolding are_joinable
  not_right e = rw e (go (not (meets left right)) (is_joinable joins left))
    where
      go : (b c : Bool) → (b && (c && false)) ≡ false
      go true true = refl
      go true false = refl
      go false c = refl

  no_step : are_joinable joins left right ≡ false → None ≡ step_of joins left right
  unfolding step_of
  no_step e = rw e refl

  pub left_cannot : of_left.joinable ≡ false → None ≡ step_of joins left right
  left_cannot e = no_step (not_left (sym (ap (λ (f : Facts). f.joinable) on_left) ∙ e))

  pub right_cannot : of_right.joinable ≡ false → None ≡ step_of joins left right
  right_cannot e = no_step (not_right (sym (ap (λ (f : Facts). f.joinable) on_right) ∙ e))

  module _ (can_left : of_left.joinable ≡ true) (can_right : of_right.joinable ≡ true) (can_both : of_both.joinable ≡ true) where
    can : are_joinable joins left right ≡ true
    unfolding are_joinable
    can =
        and_from (not (meets left right)) (is_joinable joins left && (is_joinable joins right && is_joinable joins (bit_or left right))) ((apart_says left right).1 apart)
        (and_from (is_joinable joins left) (is_joinable joins right && is_joinable joins (bit_or left right)) (sym (ap (λ (f : Facts). f.joinable) on_left) ∙ can_left)
        (and_from (is_joinable joins right) (is_joinable joins (bit_or left right)) (sym (ap (λ (f : Facts). f.joinable) on_right) ∙ can_right) (sym (ap (λ (f : Facts). f.joinable) on_both) ∙ can_both)))

    kind_is : (count : ℕ) (found : Option Special) → count_by (is_new left right) joins ≡ count → find (is_new left right) joins ≡ found → step_of joins left right ≡ kind_by left right count found
    unfolding step_of kind_of
    kind_is count found e f = rw (can, e, f) refl

    pub is_inner : of_both.done - of_left.done - of_right.done ≡ 0 → Some Inner ≡ step_of joins left right
    is_inner e =
        let none : count_by (is_new left right) joins ≡ 0 = sym count_is ∙ e in
        sym (kind_is 0 None none (none_pass (is_new left right) 0 joins (sym (counted (is_new left right) joins) ∙ none)).1)

    pub are_many : 1 < of_both.done - of_left.done - of_right.done → None ≡ step_of joins left right
    are_many more = sym (kind_is (count_by (is_new left right) joins) (find (is_new left right) joins) refl refl ∙ go (count_by (is_new left right) joins) (find (is_new left right) joins) (omega (arith, more, count_is)) refl)
      where
        several : 1 < count_by (is_new left right) joins
        several = omega (arith, more, count_is)

        go : (count : ℕ) (found : Option Special) → 1 < count → find (is_new left right) joins ≡ found → kind_by left right count found ≡ None
        go count None high f = absurd (omega (arith, several, counted (is_new left right) joins, some_found (is_new left right) joins f))
        go count (Some s) high f = rw (ne_eqb count 1 (λ e. omega (arith, e, high))) refl

    one : of_both.done - of_left.done - of_right.done ≢ 0 → ¬ (1 < of_both.done - of_left.done - of_right.done) → (k : ℕ) × (places_of (is_new left right) 0 joins ≡ 0 + k) × (k < length joins) × (find (is_new left right) joins ≡ slice_get joins k)
    one some few = one_passes (is_new left right) 0 joins (omega (arith, some, few, count_is, counted (is_new left right) joins))

    pub is_by : of_both.done - of_left.done - of_right.done ≢ 0 → ¬ (1 < of_both.done - of_left.done - of_right.done) → (s : Special) → slice_get joins (of_both.places - of_left.places - of_right.places) ≡ Some s → by_join s left right ≡ step_of joins left right
    unfolding is_between
    is_by some few s at =
        let found = one some few in
        let single : count_by (is_new left right) joins ≡ 1 = omega (arith, some, few, count_is) in
        let same : of_both.places - of_left.places - of_right.places ≡ found.0 = omega (arith, place_is, found.1) in
        sym (kind_is 1 (Some s) single (found.3 ∙ ap (slice_get joins) (sym same) ∙ at))

    -- the join of the sum of the places is there
    pub not_none : of_both.done - of_left.done - of_right.done ≢ 0 → ¬ (1 < of_both.done - of_left.done - of_right.done) → ¬ (slice_get joins (of_both.places - of_left.places - of_right.places) ≡ None)
    not_none some few e =
        let found = one some few in
        let same : of_both.places - of_left.places - of_right.places ≡ found.0 = omega (arith, place_is, found.1) in
        elim (slice_get_cases joins found.0).1 [
          | inl (s, low, there, get) ↦ some_none s (sym there ∙ ap (slice_get joins) (sym same) ∙ e)
          | inr (high, past) ↦ omega (arith, high, found.2)
        ]
      where
        some_none : (s : Special) → Some s ≡ None → ⊥
        some_none s e = cc
