-- Membership of the masks that the operations make.
use Rattle.std.proofs.Common.{◌≡◌, ℕ, ◌*◌, ◌-◌, ◌%◌, ◌^◌, ◌<◌, ◌≤◌, ◌⊎◌, ◌↔◌, inl, inr, sym, ◌∙◌, subst, arith}
use Rattle.std.specs.Int.{bit_at, bit_not, w64, trailing_zeros}
use Rattle.std.specs.Prelude.{bit_and, bit_or}
use Rattle.std.proofs.lemmas.Nat.{and_le_l, and_le_r, one_shl}
use Rattle.std.proofs.lemmas.Nat.Bits.{bit_at_or, bit_at_and, bit_at_not, bit_at-lt, bit_at_above, bit_at-pow_same, bit_at-pow_other, bit_at-trailing_zeros, bit_at_ones, same_from_bits, bit_at-zero}
use Rattle.std.proofs.lemmas.Bool.{cases_eq, cases_lt}
use Rattle.jp_base.specs.Sets.{Has, IsEmpty, Within, Meets, IsSameSet, IsLeastMember}

pub has_or : (a b i : ℕ) → Has (bit_or a b) i ↔ (Has a i ⊎ Has b i)
has_or a b i = (to, λ h. elim h [ inl p ↦ omega (arith, bit_at_or a b i, bit_at-lt b i, p) | inr q ↦ omega (arith, bit_at_or a b i, bit_at-lt a i, q) ])
  where
    to : Has (bit_or a b) i → Has a i ⊎ Has b i
    to h = elim (cases_eq (bit_at a i) 1) [ inl p ↦ inl p | inr n ↦ inr (omega (arith, bit_at_or a b i, bit_at-lt a i, bit_at-lt b i, h, n)) ]

pub has_and : (a b i : ℕ) → Has (bit_and a b) i ↔ (Has a i × Has b i)
has_and a b i = (λ h. (omega (arith, bit_at_and a b i, bit_at-lt a i, bit_at-lt b i, h), omega (arith, bit_at_and a b i, bit_at-lt a i, bit_at-lt b i, h)), λ h. omega (arith, bit_at_and a b i, h.0, h.1))

pub has_below : (a i : ℕ) → a < 2 ^ 64 → Has a i → i < 64
has_below a i small h = elim (cases_lt i 64) [ inl p ↦ p | inr q ↦ absurd (omega (arith, bit_at_above a 64 i small q, h)) ]

pub has_minus : (a b i : ℕ) → a < 2 ^ 64 → b < 2 ^ 64 → Has (bit_and a (bit_not w64 b)) i ↔ (Has a i × ¬ Has b i)
has_minus a b i small_a small_b = (to, from)
  where
    to : Has (bit_and a (bit_not w64 b)) i → Has a i × ¬ Has b i
    to h =
        let parts = (has_and a (bit_not w64 b) i).0 h in
        let place : i < 64 = has_below a i small_a parts.0 in
        (parts.0, λ p. omega (arith, bit_at_not w64 b i small_b place, parts.1, p))

    from : Has a i × ¬ Has b i → Has (bit_and a (bit_not w64 b)) i
    from h =
        let place : i < 64 = has_below a i small_a h.0 in
        let other : bit_at b i ≡ 0 = elim (cases_eq (bit_at b i) 0) [ inl p ↦ p | inr n ↦ absurd (h.1 (omega (arith, bit_at-lt b i, n))) ] in
        (has_and a (bit_not w64 b) i).1 (h.0, omega (arith, bit_at_not w64 b i small_b place, other))

pub only_one : (i k : ℕ) → i < 64 → Has (1 * 2 ^ i % 2 ^ 64) k ↔ (k ≡ i)
only_one i k h = subst (λ n. Has n k ↔ (k ≡ i)) (sym (one_shl i 64 h)) (to, λ e. subst (λ j. Has (2 ^ i) j) (sym e) (bit_at-pow_same i))
  where
    to : Has (2 ^ i) k → k ≡ i
    to p = elim (cases_eq k i) [ inl e ↦ e | inr n ↦ absurd (omega (arith, bit_at-pow_other i k n, p)) ]

-- a bit is determined by whether it is 1
bits_agree : (a b i : ℕ) → (Has a i ↔ Has b i) → bit_at a i ≡ bit_at b i
bits_agree a b i h = elim (cases_eq (bit_at a i) 1) [ inl p ↦ p ∙ sym (h.0 p) | inr n ↦ elim (cases_eq (bit_at b i) 1) [ inl q ↦ absurd (n (h.1 q)) | inr m ↦ omega (arith, bit_at-lt a i, bit_at-lt b i, n, m) ] ]

pub same_set : (a b : ℕ) → IsSameSet a b → a ≡ b
same_set a b h = same_from_bits a b (λ i. bits_agree a b i (h i))

pub within_and : (a b : ℕ) → (bit_and a b ≡ a) ↔ Within a b
within_and a b = (λ e i p. ((has_and a b i).0 (subst (λ n. Has n i) (sym e) p)).1, λ w. same_set (bit_and a b) a (λ i. (λ p. ((has_and a b i).0 p).0, λ p. (has_and a b i).1 (p, w i p))))

pub empty_zero : (a : ℕ) → a ≡ 0 → IsEmpty a
empty_zero a e i h = omega (arith, bit_at-zero i, subst (λ n. Has n i) e h)

pub least_member : (a : ℕ) → (a ≡ 0 → ⊥) → a < 2 ^ 64 → (trailing_zeros w64 a < 64) × IsLeastMember a (trailing_zeros w64 a)
least_member a some small =
    let bits = bit_at-trailing_zeros w64 a (omega (arith, some)) small in
    (bits.0, record { member = bits.1; least = λ k below p. omega (arith, bits.2 k below, p) })

pub zero_empty : (a : ℕ) → a < 2 ^ 64 → IsEmpty a → a ≡ 0
zero_empty a small none = elim (cases_eq a 0) [ inl e ↦ e | inr n ↦ absurd (none (trailing_zeros w64 a) (least_member a n small).1.member) ]

pub meets_and : (a b : ℕ) → a < 2 ^ 64 → (bit_and a b ≡ 0 → ⊥) ↔ Meets a b
meets_and a b small = (to, λ h e. empty_zero (bit_and a b) e h.0 ((has_and a b h.0).1 (h.1, h.2)))
  where
    to : (bit_and a b ≡ 0 → ⊥) → Meets a b
    to some =
        let found = (least_member (bit_and a b) some (omega (arith, and_le_l a b, small))).1 in
        let at = trailing_zeros w64 (bit_and a b) in
        let both = (has_and a b at).0 found.member in
        (at, both.0, both.1)

-- a subset is at most as great as a number
pub within_le : (a b : ℕ) → Within a b → a ≤ b
within_le a b w = subst (λ n. n ≤ b) ((within_and a b).1 w) (and_le_r a b)

-- what `top & !set` is where it is none
pub none_outside : (s t : ℕ) → s < 2 ^ 64 → t < 2 ^ 64 → bit_and t (bit_not w64 s) ≡ 0 → Within t s
none_outside s t small_s small_t e i p = elim (cases_eq (bit_at s i) 1) [ inl q ↦ q | inr n ↦ absurd (empty_zero (bit_and t (bit_not w64 s)) e i ((has_minus t s i small_t small_s).1 (p, n))) ]

-- a mask below 2 ^ 64 is one whose members lie below 64
pub small_below : (a : ℕ) → a < 2 ^ 64 ↔ ((i : ℕ) → Has a i → i < 64)
small_below a = (λ small i h. has_below a i small h, λ small. omega (arith, within_le a (2 ^ 64 - 1) (λ i h. bit_at_ones 64 i (small i h))))
