-- A number by its bits, the lowest first, and sets as numbers.
use Rattle.std.proofs.Common.{◌≡◌, ◌∙◌, sym, ap, ap₂, subst, ℕ, ◌+◌, ◌*◌, ◌/◌, ◌%◌, ◌^◌, ◌<◌, ◌≤◌, ◌↔◌, inl, inr, arith, add_comm, Some, None}
use Rattle.std.specs.Int.{bit_at}
use Rattle.std.specs.Prelude.{bit_and}
use Rattle.std.proofs.lemmas.Nat.{mod-pow-add, one_shl}
use Rattle.std.proofs.lemmas.Nat.Bits.{bit_at-lt, shr_and_one, bit_at_above, bit_at-pow_same, bit_at-pow_other}
use Rattle.std.proofs.lemmas.Bool.{cases_eq, cases_lt}
use Rattle.jp_base.specs.Sets.{Has, IsEmpty, IsOnly, IsUnion, IsLeastMember, Within}
use Rattle.jp_base.proofs.SetLemmas.{zero_empty, same_set}

pub mod_next : (n i : ℕ) → n % 2 ^ (i + 1) ≡ n % 2 ^ i + bit_at n i * 2 ^ i
mod_next n i = ap (λ k. n % 2 ^ k) (add_comm i 1) ∙ mod-pow-add n 1 i ∙ add_comm (bit_at n i * 2 ^ i) (n % 2 ^ i)

no_bit : (n i : ℕ) → ¬ Has n i → bit_at n i ≡ 0
no_bit n i lacks = elim (cases_eq (bit_at n i) 0) [ inl e ↦ e | inr d ↦ absurd (lacks (omega (arith, bit_at-lt n i, d))) ]

-- the sum of the bits below i, and the bit i
pub number_with : (n i m r : ℕ) → i < 64 → m ≡ n % 2 ^ i → Has n i → r ≡ m + 1 * 2 ^ i % 2 ^ 64 → r ≡ n % 2 ^ (i + 1)
number_with n i m r small is here e = e ∙ ap₂ (λ a b. a + b) is (one_shl i 64 small ∙ sym one) ∙ sym (mod_next n i)
  where
    times : (k : ℕ) → 1 * k ≡ k
    times k = omega arith

    one : bit_at n i * 2 ^ i ≡ 2 ^ i
    one = ap (λ b. b * 2 ^ i) here ∙ times (2 ^ i)

plus_none : (a b : ℕ) → a + 0 * b ≡ a
plus_none a b = omega arith

pub number_without : (n i m r : ℕ) → m ≡ n % 2 ^ i → ¬ Has n i → r ≡ m → r ≡ n % 2 ^ (i + 1)
number_without n i m r is lacks e = e ∙ is ∙ sym none ∙ sym (mod_next n i)
  where
    none : n % 2 ^ i + bit_at n i * 2 ^ i ≡ n % 2 ^ i
    none = ap (λ b. n % 2 ^ i + b * 2 ^ i) (no_bit n i lacks) ∙ plus_none (n % 2 ^ i) (2 ^ i)

-- ---- the set whose members below i are those of the number

abbrev pub HasBelow : ℕ → ℕ → ℕ → Type 0
HasBelow n i set = (k : ℕ) → Has set k ↔ ((k < i) × Has n k)

pub begun : (n set : ℕ) → IsEmpty set → HasBelow n 0 set
begun n set none k = (λ h. absurd (none k h), λ h. absurd (omega (arith, h.0)))

pub with_item : (n i set one r : ℕ) → HasBelow n i set → IsOnly i one → IsUnion set one r → bit_and (n / 2 ^ i) 1 ≡ 1 → HasBelow n (i + 1) r
with_item n i set one r below only union bit k = (to, from)
  where
    here : Has n i
    here = sym (shr_and_one n i) ∙ bit

    to : Has r k → (k < i + 1) × Has n k
    to h = elim ((union k).0 h) [
      | inl p ↦ (omega (arith, ((below k).0 p).0), ((below k).0 p).1)
      | inr q ↦ let e = (only k).0 q in (omega (arith, e), subst (λ j. Has n j) (sym e) here)
    ]

    from : (k < i + 1) × Has n k → Has r k
    from h = elim (cases_eq k i) [
      | inl e ↦ (union k).1 (inr ((only k).1 e))
      | inr d ↦ (union k).1 (inl ((below k).1 (omega (arith, h.0, d), h.1)))
    ]

pub without_item : (n i set r : ℕ) → HasBelow n i set → ¬ (bit_and (n / 2 ^ i) 1 ≡ 1) → r ≡ set → HasBelow n (i + 1) r
without_item n i set r below lacks e k = subst (λ s. Has s k ↔ ((k < i + 1) × Has n k)) (sym e) (λ h. let p = (below k).0 h in (omega (arith, p.0), p.1), from)
  where
    from : (k < i + 1) × Has n k → Has set k
    from h = elim (cases_eq k i) [
      | inl at ↦ absurd (lacks (shr_and_one n i ∙ subst (λ j. Has n j) at h.1))
      | inr d ↦ (below k).1 (omega (arith, h.0, d), h.1)
    ]

pub whole : (n i set : ℕ) → n < 2 ^ 16 → HasBelow n i set → 16 ≤ i → set ≡ n
whole n i set small below past = same_set set n (λ k. (λ h. ((below k).0 h).1, λ h. (below k).1 (low k h, h)))
  where
    low : (k : ℕ) → Has n k → k < i
    low k h = elim (cases_lt k 16) [ inl p ↦ omega (arith, p, past) | inr q ↦ absurd (omega (arith, bit_at_above n 16 k small q, h)) ]

-- ---- a set of one item

pub only_first : (set one i : ℕ) → IsLeastMember set i → IsOnly i one → Within set one → set ≡ 2 ^ i
only_first set one i least only within = same_set set (2 ^ i) (λ k. (to k, from k))
  where
    to : (k : ℕ) → Has set k → Has (2 ^ i) k
    to k h = subst (λ j. Has (2 ^ i) j) (sym ((only k).0 (within k h))) (bit_at-pow_same i)

    from : (k : ℕ) → Has (2 ^ i) k → Has set k
    from k h = elim (cases_eq k i) [
      | inl e ↦ subst (λ j. Has set j) (sym e) least.member
      | inr d ↦ absurd (omega (arith, bit_at-pow_other i k d, h))
    ]

-- the only item of 2 ^ i
pub of_one : (i k : ℕ) → Has (2 ^ i) k → k ≡ i
of_one i k h = elim (cases_eq k i) [ inl e ↦ e | inr d ↦ absurd (omega (arith, bit_at-pow_other i k d, h)) ]

some_same : (a b : ℕ) → Some a ≡ Some b → a ≡ b
some_same a b e = cc

pub single : (set one i : ℕ) → IsLeastMember set i → IsOnly i one → Within set one → (k : ℕ) → (Some i ≡ Some k) ↔ (set ≡ 2 ^ k)
single set one i least only within k =
    (λ e. only_first set one i least only within ∙ ap (λ j. 2 ^ j) (some_same i k e), λ e. ap (λ j. Some j) (of_one k i (subst (λ s. Has s i) e least.member)))

none_some : (k : ℕ) → None ≡ Some k → ⊥
none_some k e = cc

pub several : (set one i : ℕ) → IsLeastMember set i → IsOnly i one → ¬ Within set one → (k : ℕ) → (None ≡ Some k) ↔ (set ≡ 2 ^ k)
several set one i least only apart k = (λ e. absurd (none_some k e), λ e. absurd (apart (within e)))
  where
    within : set ≡ 2 ^ k → Within set one
    within e j h =
        let at : i ≡ k = of_one k i (subst (λ s. Has s i) e least.member) in
        (only j).1 (of_one k j (subst (λ s. Has s j) e h) ∙ sym at)

pub no_item : (set : ℕ) → IsEmpty set → (k : ℕ) → (None ≡ Some k) ↔ (set ≡ 2 ^ k)
no_item set none k = (λ e. absurd (none_some k e), λ e. absurd (none k (subst (λ s. Has s k) (sym e) (bit_at-pow_same k))))

pub not_empty : (set : ℕ) → 0 < set → set < 2 ^ 16 → ¬ IsEmpty set
not_empty set some few none = omega (arith, zero_empty set (omega (arith, few)) none, some)
