-- A part of a set and the rest of it.
use Rattle.std.proofs.Common.{◌≡◌, ◌∙◌, sym, subst, ℕ, ◌^◌, ◌<◌, ◌⊎◌, inl, inr, Bool, false, arith}
use Rattle.std.specs.Prelude.{bit_or}
use Rattle.std.proofs.lemmas.Bool.{cases_eq, cases_lt, eq-eqb, both_ways}
use Rattle.std.proofs.Math.Nat.{pow-le-pow_right}
use Rattle.jp_base.specs.Sets.{Has, Within}
use Rattle.jp_base.proofs.SetLemmas.{has_or, same_set, within_le, empty_zero}
use Rattle.jp_base.proofs.MaskAlgebra.{in_left, in_right}
use Rattle.jp_problem.specs.Sets.{without, is_empty}
use Rattle.jp_problem.specs.Legal.{Apart}
use Rattle.jp_problem.proofs.SetTests.{has_without, member_or_empty}

-- of a set with an item
pub positive : (set i : ℕ) → Has set i → 0 < set
positive set i h = elim (cases_eq set 0) [ inl e ↦ absurd (empty_zero set e i h) | inr d ↦ omega (arith, d) ]

pub not_zero : (left : ℕ) (b : Bool) → b ≡ is_empty left → b ≡ false → 0 < left
not_zero left b is e = elim (cases_eq left 0) [ inl z ↦ absurd (both_ways b e (is ∙ eq-eqb left 0 z)) | inr d ↦ omega (arith, d) ]

pub rest_within : (set left : ℕ) → Within (without set left) set
rest_within set left i h = ((has_without set left i).0 h).0

-- the rest is less than the set, where the part has an item
pub rest_below : (set left : ℕ) → 0 < left → Within left set → without set left < set
rest_below set left some within = elim (member_or_empty left) [
  | inr none ↦ absurd (omega (arith, none, some))
  | inl (i, here) ↦ elim (cases_eq (without set left) set) [
    | inl e ↦ absurd (((has_without set left i).0 (subst (λ s. Has s i) (sym e) (within i here))).1 here)
    | inr d ↦ omega (arith, within_le (without set left) set (rest_within set left), d)
  ]
]

pub part_and_rest : (set left : ℕ) → Within left set → bit_or left (without set left) ≡ set
part_and_rest set left within = same_set (bit_or left (without set left)) set (λ i. (to i, from i))
  where
    to : (i : ℕ) → Has (bit_or left (without set left)) i → Has set i
    to i h = elim ((has_or left (without set left) i).0 h) [ inl p ↦ within i p | inr q ↦ rest_within set left i q ]

    from : (i : ℕ) → Has set i → Has (bit_or left (without set left)) i
    from i h = elim (cases_has left i) [
      | inl p ↦ in_left left (without set left) i p
      | inr lacks ↦ in_right left (without set left) i ((has_without set left i).1 (h, lacks))
    ]
      where
        cases_has : (s i : ℕ) → Has s i ⊎ (Has s i → ⊥)
        cases_has s i = cases_eq _ 1

pub part_apart : (set left : ℕ) → Apart left (without set left)
part_apart set left (i, here, there) = ((has_without set left i).0 there).1 here

-- the rest of a union of two sets that share nothing
pub rest_is : (left right : ℕ) → Apart left right → right ≡ without (bit_or left right) left
rest_is left right apart = same_set right (without (bit_or left right) left) (λ i. (to i, from i))
  where
    to : (i : ℕ) → Has right i → Has (without (bit_or left right) left) i
    to i h = (has_without (bit_or left right) left i).1 (in_right left right i h, λ p. apart (i, p, h))

    from : (i : ℕ) → Has (without (bit_or left right) left) i → Has right i
    from i h = let parts = (has_without (bit_or left right) left i).0 h in elim ((has_or left right i).0 parts.0) [ inl p ↦ absurd (parts.1 p) | inr q ↦ q ]

-- a part is less than a union with a set that has an item of its own
pub part_below : (left right i : ℕ) → Apart left right → Has right i → left < bit_or left right
part_below left right i apart here = elim (cases_eq left (bit_or left right)) [
  | inl e ↦ absurd (apart (i, subst (λ s. Has s i) (sym e) (in_right left right i here), here))
  | inr d ↦ omega (arith, within_le left (bit_or left right) (in_left left right), d)
]

pub other_below : (left right i : ℕ) → Apart left right → Has left i → right < bit_or left right
other_below left right i apart here = elim (cases_eq right (bit_or left right)) [
  | inl e ↦ absurd (apart (i, here, subst (λ s. Has s i) (sym e) (in_left left right i here)))
  | inr d ↦ omega (arith, within_le right (bit_or left right) (in_right left right), d)
]

-- a set of one item isn't two sets of items that share nothing
pub one_not_two : (k left right i j : ℕ) → ((n : ℕ) → Has (bit_or left right) n → n ≡ k) → Apart left right → Has left i → ¬ Has right j
one_not_two k left right i j only apart here there = apart (i, here, subst (λ n. Has right n) (only j (in_right left right j there) ∙ sym (only i (in_left left right i here))) there)

pub exponent_below : (i n : ℕ) → 2 ^ i < 2 ^ n → i < n
exponent_below i n less = elim (cases_lt i n) [ inl p ↦ p | inr q ↦ absurd (omega (arith, pow-le-pow_right {n = 2} (omega arith) {i = n} {j = i} q, less)) ]
