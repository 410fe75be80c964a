-- Tests on sets of items are what they say, for any masks.
use Rattle.std.proofs.Common.{◌≡◌, ◌∙◌, sym, refl, subst, ℕ, zero, suc, ◌^◌, ◌<◌, ◌⊎◌, ◌↔◌, inl, inr, Bool, true, false, not, arith, Option, Some, None}
use Rattle.std.specs.Prelude.{bit_and, IsTrue, IsNone, is_some}
use Rattle.std.specs.Int.{bit_at}
use Rattle.std.proofs.lemmas.Bool.{cases_eq, cases_lt, eq-eqb, eqb-true, not-true, not_from_false, false_from_ne_true, both_ways}
use Rattle.std.proofs.lemmas.Nat.Bits.{bit_at-pow_same, bit_at-pow_other, bit_at_and, bit_at_xor, bit_at_above, bit_at-lt}
use Rattle.jp_base.specs.Sets.{Has, IsEmpty, IsOnly, Within, Meets, IsDifference}
use Rattle.jp_query.specs.Refs.{only}
use Rattle.jp_base.proofs.SetLemmas.{has_and, same_set, within_and, empty_zero}
use Rattle.jp_problem.specs.Sets.{is_within, is_empty, meets, without}
use Rattle.jp_problem.specs.Legal.{Apart}

-- two tests that say the same are one
pub same_test : (b c : Bool) → (IsTrue b → c ≡ true) → (c ≡ true → IsTrue b) → b ≡ c
same_test true c to from = sym (to refl)
same_test false true to from = from refl
same_test false false to from = refl

pub is_within_says : (a b : ℕ) → (is_within a b ≡ true) ↔ Within a b
is_within_says a b = (λ e. (within_and a b).0 (eqb-true (bit_and a b) a e), λ w. eq-eqb (bit_and a b) a ((within_and a b).1 w))

-- ---- a mask that isn't 0 has a member

below_power : (n : ℕ) → n < 2 ^ n
below_power zero = omega arith
below_power (suc n) = let h = below_power n in omega (arith, h)

some_bit : (a n : ℕ) → ((i : ℕ) × Has a i) ⊎ ((i : ℕ) → i < n → ¬ Has a i)
some_bit a zero = inr (λ i low. absurd (omega arith))
some_bit a (suc n) = elim (some_bit a n) [
  | inl found ↦ inl found
  | inr none ↦ elim (cases_eq (bit_at a n) 1) [
    | inl here ↦ inl (n, here)
    | inr not_here ↦ inr (λ i low h. elim (cases_eq i n) [ inl e ↦ not_here (subst (Has a) e h) | inr other ↦ none i (omega (arith, low, other)) h ])
  ]
]

pub member_or_empty : (a : ℕ) → ((i : ℕ) × Has a i) ⊎ (a ≡ 0)
member_or_empty a = elim (some_bit a a) [
  | inl found ↦ inl found
  | inr none ↦ inr (same_set a 0 (λ i. (λ h. elim (cases_lt i a) [ inl low ↦ absurd (none i low h) | inr high ↦ absurd (omega (arith, bit_at_above a a i (below_power a) high, h)) ], λ h. absurd (empty_zero 0 refl i h))))
]

pub is_empty_says : (a : ℕ) → (is_empty a ≡ true) ↔ IsEmpty a
is_empty_says a = (λ e. empty_zero a (eqb-true a 0 e), λ none. elim (member_or_empty a) [ inl found ↦ absurd (none found.0 found.1) | inr e ↦ eq-eqb a 0 e ])

pub not_empty_says : (a : ℕ) → (not (is_empty a) ≡ true) ↔ ((i : ℕ) × Has a i)
not_empty_says a = (to, λ some. not_from_false (is_empty a) (false_from_ne_true (is_empty a) (λ e. (is_empty_says a).0 e some.0 some.1)))
  where
    to : not (is_empty a) ≡ true → (i : ℕ) × Has a i
    to e = elim (member_or_empty a) [ inl found ↦ found | inr z ↦ absurd (both_ways (is_empty a) (not-true (is_empty a) e) (eq-eqb a 0 z)) ]

pub meets_says : (a b : ℕ) → (meets a b ≡ true) ↔ Meets a b
meets_says a b = (λ e. let found = (not_empty_says (bit_and a b)).0 e in let parts = (has_and a b found.0).0 found.1 in (found.0, parts.0, parts.1), λ m. (not_empty_says (bit_and a b)).1 (m.0, (has_and a b m.0).1 (m.1, m.2)))

pub apart_says : (a b : ℕ) → (not (meets a b) ≡ true) ↔ Apart a b
apart_says a b = (λ e m. both_ways (meets a b) (not-true (meets a b) e) ((meets_says a b).1 m), λ apart. not_from_false (meets a b) (false_from_ne_true (meets a b) (λ e. apart ((meets_says a b).0 e))))

pub has_without : (a b i : ℕ) → Has (without a b) i ↔ (Has a i × ¬ Has b i)
has_without a b i = (λ h. (omega (arith, bit_at_xor a (bit_and a b) i, bit_at_and a b i, bit_at-lt a i, bit_at-lt b i, h), λ p. omega (arith, bit_at_xor a (bit_and a b) i, bit_at_and a b i, bit_at-lt a i, bit_at-lt b i, h, p)), λ h. elim (cases_eq (bit_at b i) 1) [ inl p ↦ absurd (h.1 p) | inr n ↦ omega (arith, bit_at_xor a (bit_and a b) i, bit_at_and a b i, bit_at-lt b i, h.0, n) ])

pub without_is : (a b r : ℕ) → IsDifference a b r → r ≡ without a b
without_is a b r d = same_set r (without a b) (λ i. (λ h. (has_without a b i).1 ((d i).0 h), λ h. (d i).1 ((has_without a b i).0 h)))

pub none_is_empty : (a : ℕ) (first : Option ℕ) (b : Bool) → IsNone first ↔ IsEmpty a → is_some first ≡ not b → b ≡ is_empty a
none_is_empty a None b none says = negation b says ∙ sym ((is_empty_says a).1 (none.0 refl))
  where
    negation : (b : Bool) → false ≡ not b → b ≡ true
    negation true e = refl
    negation false e = e
none_is_empty a (Some i) b none says = negation b says ∙ sym (false_from_ne_true (is_empty a) (λ e. some_not_none (none.1 ((is_empty_says a).0 e))))
  where
    negation : (b : Bool) → true ≡ not b → b ≡ false
    negation true e = e
    negation false e = refl

    some_not_none : true ≡ false → ⊥
    some_not_none e = cc

pub not_within : (a b : ℕ) → is_within a b ≡ false → ¬ Within a b
not_within a b e w = both_ways (is_within a b) e ((is_within_says a b).1 w)

-- what a lacks of what it lacks of b is what they share
pub common_is : (a b less r : ℕ) → IsDifference a b less → IsDifference a less r → r ≡ bit_and a b
common_is a b less r first second = same_set r (bit_and a b) (λ i. (to i, from i))
  where
    to : (i : ℕ) → Has r i → Has (bit_and a b) i
    to i h =
        let parts = (second i).0 h in
        elim (cases_eq (bit_at b i) 1) [ inl p ↦ (has_and a b i).1 (parts.0, p) | inr n ↦ absurd (parts.1 ((first i).1 (parts.0, n))) ]

    from : (i : ℕ) → Has (bit_and a b) i → Has r i
    from i h = let parts = (has_and a b i).0 h in (second i).1 (parts.0, λ p. ((first i).0 p).1 parts.1)

-- the set of one item
has_only : (i k : ℕ) → Has (only i) k → k ≡ i
has_only i k h = elim (cases_eq k i) [ inl e ↦ e | inr n ↦ absurd (omega (arith, bit_at-pow_other i k n, h)) ]

pub only_is : (i r : ℕ) → IsOnly i r → r ≡ only i
only_is i r o = same_set r (only i) (λ k. (λ h. subst (λ j. Has (only i) j) (sym ((o k).0 h)) (bit_at-pow_same i), λ h. (o k).1 (has_only i k h)))
