-- The tests of joinable sets and legal steps say what they stand for.
use Rattle.std.proofs.Common.{◌≡◌, ◌∙◌, sym, refl, ap, subst, ℕ, zero, suc, ◌+◌, ◌⊎◌, ◌↔◌, inl, inr, Bool, true, false, not, ◌&&◌, ◌||◌, cond, arith, List, [], ◌∷◌, map, filter, Option, Some, None, get_or}
use Rattle.std.specs.Prelude.{bit_or, All, slice_get, find, count_by, nat_eq}
use Rattle.std.specs.List.{list_all}
use Rattle.std.proofs.lemmas.Bool.{eq-eqb, eqb-true, and_parts, and_from, or_cases, or_left, or_right, not-true, not_from_false, false_from_ne_true, both_ways}
use Rattle.std.proofs.lemmas.List.Elements.{Contains-get_or}
use Rattle.std.proofs.lemmas.List.Recursion.{is_count_by}
use Rattle.jp_base.specs.Sets.{Has, Within}
use Rattle.jp_facts.proofs.Members.{In, to_in, from_in, in_filter, from_filter, in_map, from_map}
use Rattle.jp_query.specs.declared.JoinKind.{JoinKind}
use Rattle.jp_query.specs.declared.JoinKind.TheVariants as join
use Rattle.jp_problem.specs.declared.types.Problem.{Problem}
use Rattle.jp_problem.specs.declared.types.Special.{Special}
use Rattle.jp_problem.specs.declared.types.Step.{Step}
use Rattle.jp_problem.specs.declared.types.Step.TheVariants.{Inner, By}
use Rattle.jp_problem.specs.Sets.{is_within, is_empty, meets, without}
use Rattle.jp_problem.specs.MinimumSets.{is_left, is_left_join, right_of}
use Rattle.jp_problem.specs.StepClauses.{is_done}
use Rattle.jp_problem.specs.Legal.{Apart, IsDone, IsInside, HangsBy, Hangs, Stands, misses, lies_in, IsJoinable, IsNew, IsStep, IsInner, IsBy, IsOfKind, IsLegalStep}
use Rattle.jp_problem.specs.LegalTests.{is_inside, hangs_by, hanging, others_hang, stands, is_joinable, is_new, is_between, kind_by, kind_of, are_joinable, step_of}
use Rattle.jp_problem.proofs.UnionLaws.{InSome, has_union}
use Rattle.jp_problem.proofs.SetTests.{is_within_says, not_empty_says, apart_says, has_without}

-- a test that fails, where what it says doesn't hold
pub not_says : {P : Type 0} (b : Bool) → (b ≡ true) ↔ P → (not b ≡ true) ↔ (¬ P)
not_says b says = (λ e p. both_ways b (not-true b e) (says.1 p), λ no. not_from_false b (false_from_ne_true b (λ e. no (says.0 e))))

pub is_left_says : (kind : JoinKind) → (is_left kind ≡ true) ↔ (kind ≡ join.Left)
is_left_says join.Inner = (λ e. cc, λ e. cc)
is_left_says join.Left = (λ e. refl, λ e. refl)
is_left_says join.Right = (λ e. cc, λ e. cc)
is_left_says join.Full = (λ e. cc, λ e. cc)
is_left_says join.Semi = (λ e. cc, λ e. cc)
is_left_says join.Anti = (λ e. cc, λ e. cc)

pub is_done_says : (set : ℕ) (s : Special) → (is_done set s ≡ true) ↔ IsDone set s
is_done_says set s = (
  λ e. let parts = and_parts (is_within s.min_left set) (is_within s.min_right set) e in record { left = (is_within_says s.min_left set).0 parts.0; right = (is_within_says s.min_right set).0 parts.1 },
  λ d. and_from (is_within s.min_left set) (is_within s.min_right set) ((is_within_says s.min_left set).1 d.left) ((is_within_says s.min_right set).1 d.right),
)

pub is_inside_says : (u s : Special) → (is_inside u s ≡ true) ↔ IsInside u s
unfolding is_inside
is_inside_says u s = (
  λ e. let parts = and_parts (is_within u.min_left s.min_right) (is_within u.min_right s.min_right) e in record { left = (is_within_says u.min_left s.min_right).0 parts.0; right = (is_within_says u.min_right s.min_right).0 parts.1 },
  λ d. and_from (is_within u.min_left s.min_right) (is_within u.min_right s.min_right) ((is_within_says u.min_left s.min_right).1 d.left) ((is_within_says u.min_right s.min_right).1 d.right),
)

-- ---- joinable sets

pub hangs_by_says : (set : ℕ) (s u : Special) (i : ℕ) → Has u.min_right i → (hangs_by set s u ≡ true) ↔ HangsBy set s i u
unfolding hangs_by
hangs_by_says set s u i here = (to, from)
  where
    to : (is_left_join u && (is_done set u && not (is_inside u s))) ≡ true → HangsBy set s i u
    to e =
        let parts = and_parts (is_left_join u) (is_done set u && not (is_inside u s)) e in
        let more = and_parts (is_done set u) (not (is_inside u s)) parts.1 in
        record { kind = (is_left_says u.kind).0 parts.0; done = (is_done_says set u).0 more.0; outside = (not_says (is_inside u s) (is_inside_says u s)).0 more.1; right = here }

    from : HangsBy set s i u → (is_left_join u && (is_done set u && not (is_inside u s))) ≡ true
    from h =
        and_from (is_left_join u) (is_done set u && not (is_inside u s)) ((is_left_says u.kind).1 h.kind)
        (and_from (is_done set u) (not (is_inside u s)) ((is_done_says set u).1 h.done) ((not_says (is_inside u s) (is_inside_says u s)).1 h.outside))

pub hanging_says : (joins : List Special) (set : ℕ) (s : Special) (i : ℕ) → Has (hanging joins set s) i ↔ Hangs joins set s i
unfolding hanging
hanging_says joins set s i = (λ h. to ((has_union (map right_of (filter (hangs_by set s) joins)) i).0 h), λ h. (has_union (map right_of (filter (hangs_by set s) joins)) i).1 (from h))
  where
    to : InSome (map right_of (filter (hangs_by set s) joins)) i → Hangs joins set s i
    to h =
        let u = from_map right_of h.0 (filter (hangs_by set s) joins) h.1 in
        let here : Has (right_of u.0) i = subst (λ r. Has r i) (sym u.2) h.2 in
        let kept = from_filter (hangs_by set s) u.0 joins u.1 in
        (u.0, from_in u.0 joins kept.1, (hangs_by_says set s u.0 i here).0 kept.0)

    from : Hangs joins set s i → InSome (map right_of (filter (hangs_by set s) joins)) i
    from h = (right_of h.0, in_map right_of h.0 (filter (hangs_by set s) joins) (in_filter (hangs_by set s) h.0 joins ((hangs_by_says set s h.0 i h.2.right).1 h.2) (to_in h.0 joins h.1)), h.2.right)

abbrev OthersHang : List Special → ℕ → Special → Type 0
OthersHang joins set s = (s.kind ≡ join.Left) × Apart set s.min_left × ((i : ℕ) → Has set i → ¬ Has s.min_right i → Hangs joins set s i)

others_hang_says : (joins : List Special) (set : ℕ) (s : Special) → (others_hang joins set s ≡ true) ↔ OthersHang joins set s
unfolding others_hang
others_hang_says joins set s = (to, from)
  where
    to : (is_left_join s && (not (meets set s.min_left) && is_within (without set s.min_right) (hanging joins set s))) ≡ true → OthersHang joins set s
    to e =
        let parts = and_parts (is_left_join s) (not (meets set s.min_left) && is_within (without set s.min_right) (hanging joins set s)) e in
        let more = and_parts (not (meets set s.min_left)) (is_within (without set s.min_right) (hanging joins set s)) parts.1 in
        ((is_left_says s.kind).0 parts.0, (apart_says set s.min_left).0 more.0, λ i in_set out. (hanging_says joins set s i).0 ((is_within_says (without set s.min_right) (hanging joins set s)).0 more.1 i ((has_without set s.min_right i).1 (in_set, out))))

    from : OthersHang joins set s → (is_left_join s && (not (meets set s.min_left) && is_within (without set s.min_right) (hanging joins set s))) ≡ true
    from h =
        and_from (is_left_join s) (not (meets set s.min_left) && is_within (without set s.min_right) (hanging joins set s)) ((is_left_says s.kind).1 h.0)
        (and_from (not (meets set s.min_left)) (is_within (without set s.min_right) (hanging joins set s)) ((apart_says set s.min_left).1 h.1)
        ((is_within_says (without set s.min_right) (hanging joins set s)).1 (λ i p. let parts = (has_without set s.min_right i).0 p in (hanging_says joins set s i).1 (h.2 i parts.0 parts.1))))

pub stands_says : (joins : List Special) (set : ℕ) (s : Special) → (stands joins set s ≡ true) ↔ Stands joins set s
unfolding stands
stands_says joins set s = (to, from)
  where
    to : (not (meets set s.min_right) || (is_within set s.min_right || (is_done set s || others_hang joins set s))) ≡ true → Stands joins set s
    to e = elim (or_cases (not (meets set s.min_right)) (is_within set s.min_right || (is_done set s || others_hang joins set s)) e) [
      | inl p ↦ misses ((apart_says set s.min_right).0 p)
      | inr q ↦ elim (or_cases (is_within set s.min_right) (is_done set s || others_hang joins set s) q) [
        | inl p ↦ lies_in ((is_within_says set s.min_right).0 p)
        | inr r ↦ elim (or_cases (is_done set s) (others_hang joins set s) r) [
          | inl p ↦ Stands.is_done ((is_done_says set s).0 p)
          | inr p ↦ let h = (others_hang_says joins set s).0 p in Stands.hangs h.0 h.1 h.2
        ]
      ]
    ]

    from : Stands joins set s → (not (meets set s.min_right) || (is_within set s.min_right || (is_done set s || others_hang joins set s))) ≡ true
    from (misses h) = or_left (not (meets set s.min_right)) (is_within set s.min_right || (is_done set s || others_hang joins set s)) ((apart_says set s.min_right).1 h)
    from (lies_in h) = or_right (not (meets set s.min_right)) (is_within set s.min_right || (is_done set s || others_hang joins set s)) (or_left (is_within set s.min_right) (is_done set s || others_hang joins set s) ((is_within_says set s.min_right).1 h))
    from (Stands.is_done h) = or_right (not (meets set s.min_right)) (is_within set s.min_right || (is_done set s || others_hang joins set s)) (or_right (is_within set s.min_right) (is_done set s || others_hang joins set s) (or_left (is_done set s) (others_hang joins set s) ((is_done_says set s).1 h)))
    from (Stands.hangs k a h) = or_right (not (meets set s.min_right)) (is_within set s.min_right || (is_done set s || others_hang joins set s)) (or_right (is_within set s.min_right) (is_done set s || others_hang joins set s) (or_right (is_done set s) (others_hang joins set s) ((others_hang_says joins set s).1 (k, a, h))))

-- ---- every member of a list

module _ {X : Type 0} (P : X → Type 0) (p : X → Bool) (says : (x : X) → (p x ≡ true) ↔ P x) where
  each_from : (xs : List X) → list_all p xs ≡ true → (x : X) → In x xs → P x
  each_from [] e x h = absurd h
  each_from (y ∷ ys) e x (inl same) = (says x).0 (ap p (sym same) ∙ (and_parts (p y) (list_all p ys) e).0)
  each_from (y ∷ ys) e x (inr r) = each_from ys (and_parts (p y) (list_all p ys) e).1 x r

  each_to : (xs : List X) → ((x : X) → In x xs → P x) → list_all p xs ≡ true
  each_to [] h = refl
  each_to (y ∷ ys) h = and_from (p y) (list_all p ys) ((says y).1 (h y (inl refl))) (each_to ys (λ x r. h x (inr r)))

  pub list_all_says : (xs : List X) → (list_all p xs ≡ true) ↔ All P xs
  list_all_says xs = (λ e k d low. each_from xs e (get_or xs k d) (to_in (get_or xs k d) xs (Contains-get_or xs k d low)), λ all. each_to xs (λ x r. let h = from_in x xs r in subst P h.2 (all h.0 x h.1)))

pub joinable_says : (problem : Problem) (set : ℕ) → (is_joinable problem.joins set ≡ true) ↔ IsJoinable problem set
unfolding is_joinable
joinable_says problem set = (to, from)
  where
    each : (list_all (stands problem.joins set) problem.joins ≡ true) ↔ All (Stands problem.joins set) problem.joins
    each = list_all_says (Stands problem.joins set) (stands problem.joins set) (stands_says problem.joins set) problem.joins

    to : (not (is_empty set) && list_all (stands problem.joins set) problem.joins) ≡ true → IsJoinable problem set
    to e = let parts = and_parts (not (is_empty set)) (list_all (stands problem.joins set) problem.joins) e in record { some = (not_empty_says set).0 parts.0; stands = each.0 parts.1 }

    from : IsJoinable problem set → (not (is_empty set) && list_all (stands problem.joins set) problem.joins) ≡ true
    from j = and_from (not (is_empty set)) (list_all (stands problem.joins set) problem.joins) ((not_empty_says set).1 j.some) (each.1 j.stands)

pub joinable_result : (problem : Problem) (joins : List Special) (set : ℕ) (b : Bool) → joins ≡ problem.joins → b ≡ is_joinable joins set → (b ≡ true) ↔ IsJoinable problem set
joinable_result problem joins set b same is =
    let here : b ≡ is_joinable problem.joins set = is ∙ ap (λ js. is_joinable js set) same in
    (λ t. (joinable_says problem set).0 (sym here ∙ t), λ j. here ∙ (joinable_says problem set).1 j)

-- ---- the members of a list that pass a test

abbrev At : {X : Type 0} → List X → ℕ → X → Type 0
At xs k x = slice_get xs k ≡ Some x

abbrev NonePass : {X : Type 0} → (X → Bool) → List X → Type 0
NonePass p xs = (k : ℕ) (x : _) → At xs k x → p x ≡ false

-- the member at the place passes, and no other does
record OnlyPasses {X : Type 0} (p : X → Bool) (xs : List X) (x : X) : Type 0 where
  pub place : ℕ
  pub at : At xs place x
  pub passes : p x ≡ true
  pub only : (k : ℕ) (y : X) → At xs k y → p y ≡ true → k ≡ place

module _ {X : Type 0} (p : X → Bool) where
  -- `count_by` by recursion
  count : List X → ℕ
  count [] = 0
  count (x ∷ xs) = cond (p x) (1 + count xs) (count xs)

  counted : (xs : List X) → count xs ≡ count_by p xs
  unfolding count
  counted xs = is_count_by count p refl (λ x xs. refl) xs

  -- the first member decides, or the rest
  none_tail : (x : X) (xs : List X) → NonePass p (x ∷ xs) → NonePass p xs
  none_tail x xs none k y at = none (suc k) y at

  none_pass : (xs : List X) → NonePass p xs → (count xs ≡ 0) × (find p xs ≡ None)
  unfolding count
  none_pass [] none = (refl, refl)
  none_pass (x ∷ xs) none = go (p x) (none 0 x refl) (none_pass xs (none_tail x xs none))
    where
      go : (b : Bool) → b ≡ false → (count xs ≡ 0) × (find p xs ≡ None) → (cond b (1 + count xs) (count xs) ≡ 0) × (cond b (Some x) (find p xs) ≡ None)
      go true e rest = cc
      go false e rest = rest

  pass_or_none : (xs : List X) → ((k : ℕ) × (x : X) × At xs k x × (p x ≡ true) × (find p xs ≡ Some x)) ⊎ NonePass p xs
  pass_or_none [] = inr (λ k x at. cc)
  pass_or_none (x ∷ xs) = go (p x) refl (pass_or_none xs)
    where
      go : (b : Bool) → p x ≡ b → ((k : ℕ) × (y : X) × At xs k y × (p y ≡ true) × (find p xs ≡ Some y)) ⊎ NonePass p xs → ((k : ℕ) × (y : X) × At (x ∷ xs) k y × (p y ≡ true) × (cond b (Some x) (find p xs) ≡ Some y)) ⊎ NonePass p (x ∷ xs)
      go true e rest = inl (0, x, refl, e, refl)
      go false e (inl h) = inl (suc h.0, h.1, h.2, h.3, h.4)
      go false e (inr none) = inr fails
        where
          fails : NonePass p (x ∷ xs)
          fails zero y at = ap p (some_same y at) ∙ e
            where
              some_same : (y : X) → Some x ≡ Some y → y ≡ x
              some_same y s = cc
          fails (suc k) y at = none k y at

  zero_none : (xs : List X) → count xs ≡ 0 → NonePass p xs
  unfolding count
  zero_none [] e k x at = cc
  zero_none (x ∷ xs) e k w at_w = go (λ z. zero_none xs z) (p x) refl e k w at_w
    where
      go : (count xs ≡ 0 → NonePass p xs) → (b : Bool) → p x ≡ b → cond b (1 + count xs) (count xs) ≡ 0 → NonePass p (x ∷ xs)
      go rest true is e k y at = absurd (omega (arith, e))
      go rest false is e zero y at = ap p (some_same y at) ∙ is
        where
          some_same : (y : X) → Some x ≡ Some y → y ≡ x
          some_same y s = cc
      go rest false is e (suc k) y at = rest e k y at

  -- one passes: it is the first that does, and no other does
  one_only : (xs : List X) (x : X) → count xs ≡ 1 → find p xs ≡ Some x → OnlyPasses p xs x
  unfolding count
  one_only [] x e f = cc
  one_only (y ∷ ys) x e f = go (λ z g. one_only ys x z g) (p y) refl e f
    where
      some_same : (y z : X) → Some y ≡ Some z → z ≡ y
      some_same y z s = cc

      go : (count ys ≡ 1 → find p ys ≡ Some x → OnlyPasses p ys x) → (b : Bool) → p y ≡ b → cond b (1 + count ys) (count ys) ≡ 1 → cond b (Some y) (find p ys) ≡ Some x → OnlyPasses p (y ∷ ys) x
      go later true is e f = record { place = 0; at = f; passes = ap p (some_same y x f) ∙ is; only = only }
        where
          only : (k : ℕ) (z : X) → At (y ∷ ys) k z → p z ≡ true → k ≡ 0
          only zero z at passes = refl
          only (suc k) z at passes = absurd (both_ways (p z) (zero_none ys (omega (arith, e)) k z at) passes)
      go later false is e f = record { place = suc rest.place; at = rest.at; passes = rest.passes; only = only }
        where
          rest : OnlyPasses p ys x
          rest = later e f

          only : (k : ℕ) (z : X) → At (y ∷ ys) k z → p z ≡ true → k ≡ suc rest.place
          only zero z at passes = absurd (both_ways (p z) (ap p (some_same y z at) ∙ is) passes)
          only (suc k) z at passes = ap suc (rest.only k z at passes)

  only_one : (xs : List X) (x : X) → OnlyPasses p xs x → (count xs ≡ 1) × (find p xs ≡ Some x)
  unfolding count
  only_one [] x h = cc
  only_one (y ∷ ys) x h = go (λ rest. only_one ys x rest) h.place h.at h.only (p y) refl
    where
      some_same : (y z : X) → Some y ≡ Some z → z ≡ y
      some_same y z s = cc

      go : (OnlyPasses p ys x → (count ys ≡ 1) × (find p ys ≡ Some x)) → (place : ℕ) → At (y ∷ ys) place x → ((k : ℕ) (z : X) → At (y ∷ ys) k z → p z ≡ true → k ≡ place) → (b : Bool) → p y ≡ b → (cond b (1 + count ys) (count ys) ≡ 1) × (cond b (Some y) (find p ys) ≡ Some x)
      go later zero at only true is = (ap (λ n. 1 + n) (none_pass ys none).0, at)
        where
          none : NonePass p ys
          none k z at_z = false_from_ne_true (p z) (λ passes. absurd (omega (arith, only (suc k) z at_z passes)))
      go later zero at only false is = absurd (both_ways (p x) (ap p (some_same y x at) ∙ is) h.passes)
      go later (suc place) at only true is = absurd (omega (arith, only 0 y refl is))
      go later (suc place) at only false is = later (record { place = place; at = at; passes = h.passes; only = λ k z at_z passes. omega (arith, only (suc k) z at_z passes) })

-- ---- steps

pub is_new_says : (left right : ℕ) (s : Special) → (is_new left right s ≡ true) ↔ IsNew left right s
unfolding is_new
is_new_says left right s = (to, from)
  where
    to : (is_done (bit_or left right) s && (not (is_done left s) && not (is_done right s))) ≡ true → IsNew left right s
    to e =
        let parts = and_parts (is_done (bit_or left right) s) (not (is_done left s) && not (is_done right s)) e in
        let more = and_parts (not (is_done left s)) (not (is_done right s)) parts.1 in
        record { in_union = (is_done_says (bit_or left right) s).0 parts.0; not_left = (not_says (is_done left s) (is_done_says left s)).0 more.0; not_right = (not_says (is_done right s) (is_done_says right s)).0 more.1 }

    from : IsNew left right s → (is_done (bit_or left right) s && (not (is_done left s) && not (is_done right s))) ≡ true
    from h =
        and_from (is_done (bit_or left right) s) (not (is_done left s) && not (is_done right s)) ((is_done_says (bit_or left right) s).1 h.in_union)
        (and_from (not (is_done left s)) (not (is_done right s)) ((not_says (is_done left s) (is_done_says left s)).1 h.not_left) ((not_says (is_done right s) (is_done_says right s)).1 h.not_right))

abbrev IsBetween : ℕ → ℕ → Special → Type 0
IsBetween left right s = Within s.min_left left × Within s.min_right right

is_between_says : (left right : ℕ) (s : Special) → (is_between left right s ≡ true) ↔ IsBetween left right s
unfolding is_between
is_between_says left right s = (
  λ e. let parts = and_parts (is_within s.min_left left) (is_within s.min_right right) e in ((is_within_says s.min_left left).0 parts.0, (is_within_says s.min_right right).0 parts.1),
  λ h. and_from (is_within s.min_left left) (is_within s.min_right right) ((is_within_says s.min_left left).1 h.0) ((is_within_says s.min_right right).1 h.1),
)

-- the kind, where no join is new
inner_kind : (joins : List Special) (left right : ℕ) (kind : Step) → NonePass (is_new left right) joins → (Some Inner ≡ Some kind) ↔ IsOfKind joins left right kind
inner_kind joins left right Inner none = (λ e k s at new. both_ways (is_new left right s) (none k s at) ((is_new_says left right s).1 new), λ inner. refl)
inner_kind joins left right (By number) none = (λ e. cc, λ by. absurd (both_ways (is_new left right by.join) (none by.only_new.place by.join by.only_new.join) ((is_new_says left right by.join).1 by.only_new.new)))

-- where one is the first new one
by_kind : (joins : List Special) (left right : ℕ) (kind : Step) (k : ℕ) (s : Special) → At joins k s → is_new left right s ≡ true → find (is_new left right) joins ≡ Some s → (kind_by left right (count_by (is_new left right) joins) (Some s) ≡ Some kind) ↔ IsOfKind joins left right kind
by_kind joins left right Inner k s at new found = (λ e. go (nat_eq (count_by (is_new left right) joins) 1 && is_between left right s) e, λ inner. absurd (inner k s at ((is_new_says left right s).0 new)))
  where
    go : (b : Bool) → cond b (Some (By s.no)) None ≡ Some Inner → IsInner joins left right
    go true e = cc
    go false e = cc
by_kind joins left right (By number) k s at new found = (λ e. go (nat_eq (count_by (is_new left right) joins) 1 && is_between left right s) refl e, from)
  where
    go : (b : Bool) → (nat_eq (count_by (is_new left right) joins) 1 && is_between left right s) ≡ b → cond b (Some (By s.no)) None ≡ Some (By number) → IsBy joins left right number
    go true is e =
        let parts = and_parts (nat_eq (count_by (is_new left right) joins) 1) (is_between left right s) is in
        let once : count_by (is_new left right) joins ≡ 1 = eqb-true (count_by (is_new left right) joins) 1 parts.0 in
        let only = one_only (is_new left right) joins s (counted (is_new left right) joins ∙ once) found in
        let between = (is_between_says left right s).0 parts.1 in
        record {
          join = s;
          numbered = same_number e;
          only_new = record { place = only.place; join = only.at; new = (is_new_says left right s).0 new; only = λ j t at_t t_new. only.only j t at_t ((is_new_says left right t).1 t_new) };
          on_left = between.0;
          on_right = between.1;
        }
      where
        same_number : Some (By s.no) ≡ Some (By number) → s.no ≡ number
        same_number e = cc
    go false is e = cc

    from : IsBy joins left right number → cond (nat_eq (count_by (is_new left right) joins) 1 && is_between left right s) (Some (By s.no)) None ≡ Some (By number)
    from by =
        let passing : OnlyPasses (is_new left right) joins by.join = record { place = by.only_new.place; at = by.only_new.join; passes = (is_new_says left right by.join).1 by.only_new.new; only = λ j t at_t passes. by.only_new.only j t at_t ((is_new_says left right t).0 passes) } in
        let facts = only_one (is_new left right) joins by.join passing in
        let same : by.join ≡ s = some_same by.join s (sym facts.1 ∙ found) in
        let once : nat_eq (count_by (is_new left right) joins) 1 ≡ true = eq-eqb (count_by (is_new left right) joins) 1 (sym (counted (is_new left right) joins) ∙ facts.0) in
        let between : is_between left right s ≡ true = subst (λ t. is_between left right t ≡ true) same ((is_between_says left right by.join).1 (by.on_left, by.on_right)) in
        ap (λ b. cond b (Some (By s.no)) None) (and_from (nat_eq (count_by (is_new left right) joins) 1) (is_between left right s) once between)
        ∙ ap (λ n. Some (By n)) (sym (ap (λ t. t.no) same) ∙ by.numbered)
      where
        some_same : (x y : Special) → Some x ≡ Some y → x ≡ y
        some_same x y e = cc

kind_says : (joins : List Special) (left right : ℕ) (kind : Step) → (kind_of joins left right ≡ Some kind) ↔ IsOfKind joins left right kind
unfolding kind_of
kind_says joins left right kind = elim (pass_or_none (is_new left right) joins) [
  | inl h ↦ subst (λ o. (kind_by left right (count_by (is_new left right) joins) o ≡ Some kind) ↔ IsOfKind joins left right kind) (sym h.4) (by_kind joins left right kind h.0 h.1 h.2 h.3 h.4)
  | inr none ↦ subst (λ o. (kind_by left right (count_by (is_new left right) joins) o ≡ Some kind) ↔ IsOfKind joins left right kind) (sym (none_pass (is_new left right) joins none).1) (inner_kind joins left right kind none)
]

are_joinable_says : (problem : Problem) (left right : ℕ) → (are_joinable problem.joins left right ≡ true) ↔ IsStep problem left right
unfolding are_joinable
are_joinable_says problem left right = (to, from)
  where
    to : (not (meets left right) && (is_joinable problem.joins left && (is_joinable problem.joins right && is_joinable problem.joins (bit_or left right)))) ≡ true → IsStep problem left right
    to e =
        let a = and_parts (not (meets left right)) (is_joinable problem.joins left && (is_joinable problem.joins right && is_joinable problem.joins (bit_or left right))) e in
        let b = and_parts (is_joinable problem.joins left) (is_joinable problem.joins right && is_joinable problem.joins (bit_or left right)) a.1 in
        let c = and_parts (is_joinable problem.joins right) (is_joinable problem.joins (bit_or left right)) b.1 in
        record { apart = (apart_says left right).0 a.0; left_joinable = (joinable_says problem left).0 b.0; right_joinable = (joinable_says problem right).0 c.0; joinable = (joinable_says problem (bit_or left right)).0 c.1 }

    from : IsStep problem left right → (not (meets left right) && (is_joinable problem.joins left && (is_joinable problem.joins right && is_joinable problem.joins (bit_or left right)))) ≡ true
    from s =
        and_from (not (meets left right)) (is_joinable problem.joins left && (is_joinable problem.joins right && is_joinable problem.joins (bit_or left right))) ((apart_says left right).1 s.apart)
        (and_from (is_joinable problem.joins left) (is_joinable problem.joins right && is_joinable problem.joins (bit_or left right)) ((joinable_says problem left).1 s.left_joinable)
        (and_from (is_joinable problem.joins right) (is_joinable problem.joins (bit_or left right)) ((joinable_says problem right).1 s.right_joinable) ((joinable_says problem (bit_or left right)).1 s.joinable)))

pub step_says : (problem : Problem) (left right : ℕ) (kind : Step) → (step_of problem.joins left right ≡ Some kind) ↔ IsLegalStep problem left right kind
unfolding step_of
step_says problem left right kind = (λ e. to (are_joinable problem.joins left right) refl e, from)
  where
    to : (b : Bool) → are_joinable problem.joins left right ≡ b → cond b (kind_of problem.joins left right) None ≡ Some kind → IsLegalStep problem left right kind
    to true is e = record { step = (are_joinable_says problem left right).0 is; of_kind = (kind_says problem.joins left right kind).0 e }
    to false is e = cc

    from : IsLegalStep problem left right kind → cond (are_joinable problem.joins left right) (kind_of problem.joins left right) None ≡ Some kind
    from h = ap (λ b. cond b (kind_of problem.joins left right) None) ((are_joinable_says problem left right).1 h.step) ∙ (kind_says problem.joins left right kind).1 h.of_kind

pub step_result : (problem : Problem) (joins : List Special) (left right : ℕ) (result : Option Step) → joins ≡ problem.joins → result ≡ step_of joins left right → (kind : Step) → (result ≡ Some kind) ↔ IsLegalStep problem left right kind
step_result problem joins left right result same is kind =
    let here : result ≡ step_of problem.joins left right = is ∙ ap (λ js. step_of js left right) same in
    (λ t. (step_says problem left right kind).0 (sym here ∙ t), λ h. here ∙ (step_says problem left right kind).1 h)
