-- The four small frames meet the conditions of a frame, and the bushy tree is legal.
use Rattle.std.proofs.Common.{◌≡◌, ap, ap₂, subst, refl, ℕ, suc, zero, ◌<◌, ◌⊎◌, inl, inr, false, List, [], ◌∷◌, arith, None}
use Rattle.std.specs.Prelude.{bit_and}
use Rattle.std.proofs.lemmas.Nat.Bits.{bit_at-zero}
use Rattle.jp_base.specs.Sets.{Has, Within, Meets}
use Rattle.jp_base.proofs.SetLemmas.{has_and, has_or}
use Rattle.jp_frame.specs.Maps.{Map, at, Agree}
use Rattle.jp_frame.specs.Frames.{IsFrame, Left, Apart, IsInside, IsUnder, Covers, takes_in, rejects, Nested, apart, within, around}
use Rattle.jp_frame.specs.Legal.{IsDone, Stands, misses, lies_in, is_done, hangs, IsJoinable, IsStepBy}
use Rattle.jp_frame.specs.Steps.{By}
use Rattle.jp_frame.specs.Trees.{IsLegalTree}
use Rattle.jp_frame.specs.Examples.{value_in, same_value, value_or, equal_at, equal_or_at, two_left_joins, null_kept, semi_inside, hanging, bushy}
use Rattle.jp_frame.proofs.Reading.{within_is}
use Rattle.jp_frame.proofs.BagLaws.{only_power}
use Rattle.jp_frame.proofs.EnoughLaws.{step_enough, scan_enough}

-- ---- joins 0 and 1, and items 0, 1 and 2

at_two : (P : ℕ → Type 0) → P 0 → P 1 → (s : ℕ) → s < 2 → P s
at_two P a b zero low = a
at_two P a b (suc zero) low = b
at_two P a b (suc (suc s)) low = absurd (omega arith)

at_pairs : (P : ℕ → ℕ → Type 0) → P 0 0 → P 0 1 → P 1 0 → P 1 1 → (s t : ℕ) → s < 2 → t < 2 → P s t
at_pairs P a b c d zero t low_s low_t = at_two (P 0) a b t low_t
at_pairs P a b c d (suc zero) t low_s low_t = at_two (P 1) c d t low_t
at_pairs P a b c d (suc (suc s)) t low_s low_t = absurd (omega arith)

in_1 : (i : ℕ) → Has 1 i → i ≡ 0
in_1 = only_power 0

in_2 : (i : ℕ) → Has 2 i → i ≡ 1
in_2 = only_power 1

in_4 : (i : ℕ) → Has 4 i → i ≡ 2
in_4 = only_power 2

in_3 : (i : ℕ) → Has 3 i → (i ≡ 0) ⊎ (i ≡ 1)
in_3 i h = elim ((has_or 1 2 i).0 h) [ inl p ↦ inl (in_1 i p) | inr p ↦ inr (in_2 i p) ]

in_6 : (i : ℕ) → Has 6 i → (i ≡ 1) ⊎ (i ≡ 2)
in_6 i h = elim ((has_or 2 4 i).0 h) [ inl p ↦ inl (in_2 i p) | inr p ↦ inr (in_4 i p) ]

apart_masks : (a b : ℕ) → bit_and a b ≡ 0 → Apart a b
apart_masks a b e i p q = omega (arith, bit_at-zero i, subst (λ n. Has n i) e ((has_and a b i).1 (p, q)))

not_meeting : {P : Type 0} → (a b : ℕ) → bit_and a b ≡ 0 → Meets a b → P
not_meeting a b e m = absurd (apart_masks a b e m.0 m.1 m.2)

-- ---- tests

equal_left : (a : List ℕ) (i : ℕ) (b : List ℕ) (j : ℕ) (m : Map) → at m i ≡ None → equal_at a i b j m ≡ false
equal_left a i b j m e = ap (λ row. same_value (value_in a row) (value_in b (at m j))) e

equal_local : (set : ℕ) (a : List ℕ) (i : ℕ) (b : List ℕ) (j : ℕ) (m n : Map) → Has set i → Has set j → Agree set m n → equal_at a i b j m ≡ equal_at a i b j n
equal_local set a i b j m n p q agree = ap₂ (λ x y. same_value (value_in a x) (value_in b y)) (agree i p) (agree j q)

equal_or_local : (set d : ℕ) (a : List ℕ) (i : ℕ) (b : List ℕ) (j : ℕ) (m n : Map) → Has set i → Has set j → Agree set m n → equal_or_at d a i b j m ≡ equal_or_at d a i b j n
equal_or_local set d a i b j m n p q agree = ap₂ (λ x y. same_value (value_or d (value_in a x)) (value_in b y)) (agree i p) (agree j q)

-- ---- the frames

pub two_is_frame : IsFrame two_left_joins
two_is_frame = record {
  on_local = λ s m n low. at_two (λ s. Agree (two_left_joins.on_uses s) m n → two_left_joins.on s m ≡ two_left_joins.on s n)
      (equal_local 3 (1 ∷ 2 ∷ 3 ∷ []) 0 (1 ∷ 2 ∷ []) 1 m n refl refl) (equal_local 6 (7 ∷ 8 ∷ []) 1 (7 ∷ 7 ∷ []) 2 m n refl refl) s low;
  clause_local = λ c m n low. absurd (omega arith);
  region_join = λ c r low. absurd (omega arith);
  left_some = at_two (λ s. (i : ℕ) × Has (two_left_joins.left s) i) (0, refl) (1, refl);
  right_some = at_two (λ s. (i : ℕ) × Has (two_left_joins.right s) i) (1, refl) (2, refl);
  in_order = λ s i j low. at_two (λ s. Has (two_left_joins.left s) i → Has (two_left_joins.right s) j → i < j)
      (λ p q. let a = in_1 i p in let b = in_2 j q in omega (arith, a, b)) (λ p q. let a = in_2 i p in let b = in_4 j q in omega (arith, a, b)) s low;
  nested = at_pairs (λ s t. (s ≡ t → ⊥) → Nested (two_left_joins.right s) (two_left_joins.right t))
      (λ n. absurd (n refl)) (λ n. apart (apart_masks 2 4 refl)) (λ n. apart (apart_masks 4 2 refl)) (λ n. absurd (n refl));
  left_within = at_pairs (λ s t. (s ≡ t → ⊥) → Within (two_left_joins.right s) (two_left_joins.right t) → Within (two_left_joins.left s) (two_left_joins.right t))
      (λ n. absurd (n refl)) (λ n w. absurd (apart_masks 2 4 refl 1 refl (w 1 refl))) (λ n w. absurd (apart_masks 4 2 refl 2 refl (w 2 refl))) (λ n. absurd (n refl));
  covers = at_pairs (λ u t. (u ≡ t → ⊥) → Meets (two_left_joins.left u) (two_left_joins.right t) → (IsInside two_left_joins u t → ⊥) → Covers two_left_joins u t)
      (λ n. absurd (n refl)) (λ n m. not_meeting 1 4 refl m) (λ n m i. rejects refl (λ x none. equal_left (7 ∷ 8 ∷ []) 1 (7 ∷ 7 ∷ []) 2 x (none 1 refl))) (λ n. absurd (n refl));
  needs_some = λ c low. absurd (omega arith);
  needs_within = λ c r low. absurd (omega arith);
  needs_closed = λ c t low. absurd (omega arith);
  uses_within = λ c low. absurd (omega arith);
  on_uses_within = λ s i low. at_two (λ s. Has (two_left_joins.on_uses s) i → Has (two_left_joins.left s) i ⊎ Has (two_left_joins.right s) i)
      (has_or 1 2 i).0 (has_or 2 4 i).0 s low;
}

pub kept_is_frame : IsFrame null_kept
kept_is_frame = record {
  on_local = λ s m n low. at_two (λ s. Agree (null_kept.on_uses s) m n → null_kept.on s m ≡ null_kept.on s n)
      (equal_local 3 (1 ∷ 2 ∷ 3 ∷ []) 0 (1 ∷ 2 ∷ []) 1 m n refl refl) (equal_or_local 6 7 (7 ∷ 8 ∷ []) 1 (7 ∷ 7 ∷ []) 2 m n refl refl) s low;
  clause_local = λ c m n low. absurd (omega arith);
  region_join = λ c r low. absurd (omega arith);
  left_some = at_two (λ s. (i : ℕ) × Has (null_kept.left s) i) (0, refl) (1, refl);
  right_some = at_two (λ s. (i : ℕ) × Has (null_kept.right s) i) (1, refl) (2, refl);
  in_order = λ s i j low. at_two (λ s. Has (null_kept.left s) i → Has (null_kept.right s) j → i < j)
      (λ p q. let a = in_1 i p in let b = in_2 j q in omega (arith, a, b)) (λ p q. let b = in_4 j q in elim (in_3 i p) [ inl a ↦ omega (arith, a, b) | inr a ↦ omega (arith, a, b) ]) s low;
  nested = at_pairs (λ s t. (s ≡ t → ⊥) → Nested (null_kept.right s) (null_kept.right t))
      (λ n. absurd (n refl)) (λ n. apart (apart_masks 2 4 refl)) (λ n. apart (apart_masks 4 2 refl)) (λ n. absurd (n refl));
  left_within = at_pairs (λ s t. (s ≡ t → ⊥) → Within (null_kept.right s) (null_kept.right t) → Within (null_kept.left s) (null_kept.right t))
      (λ n. absurd (n refl)) (λ n w. absurd (apart_masks 2 4 refl 1 refl (w 1 refl))) (λ n w. absurd (apart_masks 4 2 refl 2 refl (w 2 refl))) (λ n. absurd (n refl));
  covers = at_pairs (λ u t. (u ≡ t → ⊥) → Meets (null_kept.left u) (null_kept.right t) → (IsInside null_kept u t → ⊥) → Covers null_kept u t)
      (λ n. absurd (n refl)) (λ n m. not_meeting 1 4 refl m) (λ n m i. takes_in ((within_is 1 3).0 refl) ((within_is 2 3).0 refl)) (λ n. absurd (n refl));
  needs_some = λ c low. absurd (omega arith);
  needs_within = λ c r low. absurd (omega arith);
  needs_closed = λ c t low. absurd (omega arith);
  uses_within = λ c low. absurd (omega arith);
  on_uses_within = λ s i low. at_two (λ s. Has (null_kept.on_uses s) i → Has (null_kept.left s) i ⊎ Has (null_kept.right s) i)
      (has_or 1 2 i).0 (λ h. elim ((has_or 2 4 i).0 h) [ inl p ↦ inl ((within_is 2 3).0 refl i p) | inr p ↦ inr p ]) s low;
}

pub semi_is_frame : IsFrame semi_inside
semi_is_frame = record {
  on_local = λ s m n low. at_two (λ s. Agree (semi_inside.on_uses s) m n → semi_inside.on s m ≡ semi_inside.on s n)
      (equal_local 6 (7 ∷ 8 ∷ []) 1 (7 ∷ 7 ∷ []) 2 m n refl refl) (equal_local 3 (1 ∷ 2 ∷ []) 0 (1 ∷ 2 ∷ []) 1 m n refl refl) s low;
  clause_local = λ c m n low. absurd (omega arith);
  region_join = λ c r low. absurd (omega arith);
  left_some = at_two (λ s. (i : ℕ) × Has (semi_inside.left s) i) (1, refl) (0, refl);
  right_some = at_two (λ s. (i : ℕ) × Has (semi_inside.right s) i) (2, refl) (1, refl);
  in_order = λ s i j low. at_two (λ s. Has (semi_inside.left s) i → Has (semi_inside.right s) j → i < j)
      (λ p q. let a = in_2 i p in let b = in_4 j q in omega (arith, a, b)) (λ p q. let a = in_1 i p in elim (in_6 j q) [ inl b ↦ omega (arith, a, b) | inr b ↦ omega (arith, a, b) ]) s low;
  nested = at_pairs (λ s t. (s ≡ t → ⊥) → Nested (semi_inside.right s) (semi_inside.right t))
      (λ n. absurd (n refl)) (λ n. within ((within_is 4 6).0 refl)) (λ n. around ((within_is 4 6).0 refl)) (λ n. absurd (n refl));
  left_within = at_pairs (λ s t. (s ≡ t → ⊥) → Within (semi_inside.right s) (semi_inside.right t) → Within (semi_inside.left s) (semi_inside.right t))
      (λ n. absurd (n refl)) (λ n w. (within_is 2 6).0 refl) (λ n w. absurd (apart_masks 2 4 refl 1 refl (w 1 refl))) (λ n. absurd (n refl));
  covers = at_pairs (λ u t. (u ≡ t → ⊥) → Meets (semi_inside.left u) (semi_inside.right t) → (IsInside semi_inside u t → ⊥) → Covers semi_inside u t)
      (λ n. absurd (n refl)) (λ n m i. absurd (i (record { other = n; left = (within_is 2 6).0 refl; right = (within_is 4 6).0 refl }))) (λ n m. not_meeting 1 4 refl m) (λ n. absurd (n refl));
  needs_some = λ c low. absurd (omega arith);
  needs_within = λ c r low. absurd (omega arith);
  needs_closed = λ c t low. absurd (omega arith);
  uses_within = λ c low. absurd (omega arith);
  on_uses_within = λ s i low. at_two (λ s. Has (semi_inside.on_uses s) i → Has (semi_inside.left s) i ⊎ Has (semi_inside.right s) i)
      (has_or 2 4 i).0 (λ h. elim ((has_or 1 2 i).0 h) [ inl p ↦ inl p | inr p ↦ inr ((within_is 2 6).0 refl i p) ]) s low;
}

at_one : (P : ℕ → Type 0) → P 0 → (c : ℕ) → c < 1 → P c
at_one P a zero low = a
at_one P a (suc c) low = absurd (omega arith)

pub hanging_is_frame : IsFrame hanging
hanging_is_frame = record {
  on_local = λ s m n low. at_two (λ s. Agree (hanging.on_uses s) m n → hanging.on s m ≡ hanging.on s n)
      (equal_local 6 (7 ∷ 8 ∷ []) 1 (7 ∷ 9 ∷ []) 2 m n refl refl) (equal_local 3 (1 ∷ 2 ∷ 5 ∷ []) 0 (1 ∷ 3 ∷ []) 1 m n refl refl) s low;
  clause_local = λ c m n low. at_one (λ c. Agree (hanging.uses c) m n → hanging.holds c m ≡ hanging.holds c n) (λ agree. ap (λ row. hanging.holds 0 (row ∷ [])) (agree 0 refl)) c low;
  region_join = λ c r low. at_one (λ c. hanging.region c ≡ suc r → r < 2) (λ e. absurd (omega (arith, e))) c low;
  left_some = at_two (λ s. (i : ℕ) × Has (hanging.left s) i) (1, refl) (0, refl);
  right_some = at_two (λ s. (i : ℕ) × Has (hanging.right s) i) (2, refl) (1, refl);
  in_order = λ s i j low. at_two (λ s. Has (hanging.left s) i → Has (hanging.right s) j → i < j)
      (λ p q. let a = in_2 i p in let b = in_4 j q in omega (arith, a, b)) (λ p q. let a = in_1 i p in let b = in_2 j q in omega (arith, a, b)) s low;
  nested = at_pairs (λ s t. (s ≡ t → ⊥) → Nested (hanging.right s) (hanging.right t))
      (λ n. absurd (n refl)) (λ n. apart (apart_masks 4 2 refl)) (λ n. apart (apart_masks 2 4 refl)) (λ n. absurd (n refl));
  left_within = at_pairs (λ s t. (s ≡ t → ⊥) → Within (hanging.right s) (hanging.right t) → Within (hanging.left s) (hanging.right t))
      (λ n. absurd (n refl)) (λ n w. absurd (apart_masks 4 2 refl 2 refl (w 2 refl))) (λ n w. absurd (apart_masks 2 4 refl 1 refl (w 1 refl))) (λ n. absurd (n refl));
  covers = at_pairs (λ u t. (u ≡ t → ⊥) → Meets (hanging.left u) (hanging.right t) → (IsInside hanging u t → ⊥) → Covers hanging u t)
      (λ n. absurd (n refl)) (λ n m i. rejects refl (λ x none. equal_left (7 ∷ 8 ∷ []) 1 (7 ∷ 9 ∷ []) 2 x (none 1 refl))) (λ n m. not_meeting 1 4 refl m) (λ n. absurd (n refl));
  needs_some = at_one (λ c. (i : ℕ) × Has (hanging.needs c) i) (0, refl);
  needs_within = λ c r low. at_one (λ c. hanging.region c ≡ suc r → Within (hanging.needs c) (hanging.right r)) (λ e. absurd (omega (arith, e))) c low;
  needs_closed = λ c t low join. at_one (λ c. IsUnder hanging t (hanging.region c) → Meets (hanging.right t) (hanging.needs c) → Within (hanging.left t) (hanging.needs c) × Within (hanging.right t) (hanging.needs c))
      (at_two (λ t. IsUnder hanging t 0 → Meets (hanging.right t) 1 → Within (hanging.left t) 1 × Within (hanging.right t) 1) (λ u m. not_meeting 4 1 refl m) (λ u m. not_meeting 2 1 refl m) t join) c low;
  uses_within = at_one (λ c. Within (hanging.uses c) (hanging.needs c)) (λ i p. p);
  on_uses_within = λ s i low. at_two (λ s. Has (hanging.on_uses s) i → Has (hanging.left s) i ⊎ Has (hanging.right s) i)
      (has_or 2 4 i).0 (has_or 1 2 i).0 s low;
}

-- ---- the bushy tree

not_inside : IsInside hanging 0 1 → ⊥
not_inside i = apart_masks 4 2 refl 2 refl (i.right 2 refl)

first_done : IsDone hanging 6 0
first_done = record { join = omega arith; left = (within_is 2 6).0 refl; right = (within_is 4 6).0 refl }

a_joinable : IsJoinable hanging 1
a_joinable = record { some = (0, refl); stands = at_two (Stands hanging 1) (misses (apart_masks 1 4 refl)) (misses (apart_masks 1 2 refl)) }

b_joinable : IsJoinable hanging 2
b_joinable = record { some = (1, refl); stands = at_two (Stands hanging 2) (misses (apart_masks 2 4 refl)) (lies_in (λ i p. p)) }

c_joinable : IsJoinable hanging 4
c_joinable = record { some = (2, refl); stands = at_two (Stands hanging 4) (lies_in (λ i p. p)) (misses (apart_masks 4 2 refl)) }

bc_joinable : IsJoinable hanging 6
bc_joinable = record { some = (1, refl); stands = at_two (Stands hanging 6) (is_done first_done) (hangs refl (apart_masks 6 1 refl) on) }
  where
    on : (i : ℕ) → Has 6 i → ¬ Has 2 i → (u : ℕ) × IsDone hanging 6 u × (hanging.kind u ≡ Left) × ¬ IsInside hanging u 1 × Has (hanging.right u) i
    on i p n = (0, first_done, refl, not_inside, elim ((has_or 2 4 i).0 p) [ inl q ↦ absurd (n q) | inr q ↦ q ])

all_joinable : IsJoinable hanging 7
all_joinable = record {
  some = (0, refl);
  stands = at_two (Stands hanging 7)
      (is_done (record { join = omega arith; left = (within_is 2 7).0 refl; right = (within_is 4 7).0 refl }))
      (is_done (record { join = omega arith; left = (within_is 1 7).0 refl; right = (within_is 2 7).0 refl }));
}

hung : IsStepBy hanging 2 4 0
hung = record {
  step = record { apart = apart_masks 2 4 refl; left_joinable = b_joinable; right_joinable = c_joinable; joinable = bc_joinable };
  join = omega arith;
  on_left = λ i p. p;
  on_right = λ i p. p;
  one_new = λ u d. at_two (λ u. IsDone hanging 6 u → (IsDone hanging 2 u ⊎ IsDone hanging 4 u) ⊎ (u ≡ 0)) (λ d. inr refl) (λ d. absurd (apart_masks 1 6 refl 0 refl (d.left 0 refl))) u d.join d;
}

joined : IsStepBy hanging 1 6 1
joined = record {
  step = record { apart = apart_masks 1 6 refl; left_joinable = a_joinable; right_joinable = bc_joinable; joinable = all_joinable };
  join = omega arith;
  on_left = λ i p. p;
  on_right = (within_is 2 6).0 refl;
  one_new = λ u d. at_two (λ u. (IsDone hanging 1 u ⊎ IsDone hanging 6 u) ⊎ (u ≡ 1)) (inl (inr first_done)) (inr refl) u d.join;
}

pub bushy_is_legal : IsLegalTree hanging bushy
bushy_is_legal = (
  joined,
  tt,
  step_enough hanging hanging_is_frame 1 6 (By 1),
  (omega arith, scan_enough hanging hanging_is_frame 0),
  (hung, refl, step_enough hanging hanging_is_frame 2 4 (By 0), (omega arith, scan_enough hanging hanging_is_frame 1), (omega arith, scan_enough hanging hanging_is_frame 2)),
)
