-- The greatest subset of s that is at most t, where t has a member outside s. The greatest such member is j,
-- so t is (t / 2 ^ j) * 2 ^ j and a rest, where t / 2 ^ j is odd and, but for its lowest bit, within s / 2 ^ j.
use Rattle.std.proofs.Common.{◌≡◌, ℕ, ◌+◌, ◌-◌, ◌*◌, ◌/◌, ◌%◌, ◌^◌, ◌<◌, ◌≤◌, suc, inl, inr, sym, ◌∙◌, ap, ap₂, subst, arith, lit<, mod-lt}
use Rattle.std.specs.Int.{bit_at, bit_not, w64}
use Rattle.std.specs.Prelude.{bit_and, bit_or}
use Rattle.std.proofs.lemmas.Nat.{and_le_l, le-div, pow_pos, shr-shr, shr_split, and_le_r, and_mask, and_mod, and_shr, and_block, or_shifted, mul-le}
use Rattle.std.proofs.lemmas.Nat.Bits.{bit_at_and, bit_at-lt, bit_at_above, and_high_mask}
use Rattle.std.proofs.Math.Nat.{div-eq_of_lt-le, div-mul-le_self, div-one, pow-succ'}
use Rattle.std.proofs.lemmas.Bool.{cases_eq}
use Rattle.jp_base.specs.Sets.{Has, Within}
use Rattle.jp_base.proofs.SetLemmas.{has_or, has_and, has_minus, within_and}

-- the answer as the code computes it, by the place j of the greatest member outside
abbrev pub part_at : ℕ → ℕ → ℕ → ℕ
part_at s t j = bit_or (bit_and (bit_and t s) (bit_not w64 (2 ^ j - 1))) (bit_and s (2 ^ j - 1))

pub part-within : (s t j : ℕ) → Within (part_at s t j) s
part-within s t j i h = elim ((has_or (bit_and (bit_and t s) (bit_not w64 (2 ^ j - 1))) (bit_and s (2 ^ j - 1)) i).0 h) [
  | inl p ↦ ((has_and t s i).0 ((has_and (bit_and t s) (bit_not w64 (2 ^ j - 1)) i).0 p).0).1
  | inr q ↦ ((has_and s (2 ^ j - 1) i).0 q).0
]

-- the same as a sum of the part from j on and the part below j
pub part-sum : (s t j : ℕ) → t < 2 ^ 64 → j < 64 → part_at s t j ≡ bit_and (t / 2 ^ j) (s / 2 ^ j) * 2 ^ j + s % 2 ^ j
part-sum s t j small place =
    let below : bit_and t s < 2 ^ 64 = omega (arith, and_le_l t s, small) in
    let mask : bit_not w64 (2 ^ j - 1) ≡ 2 ^ 64 - 2 ^ j = omega (arith, pow_pos j) in
    let high : bit_and (bit_and t s) (bit_not w64 (2 ^ j - 1)) ≡ bit_and (t / 2 ^ j) (s / 2 ^ j) * 2 ^ j =
    ap (bit_and (bit_and t s)) mask ∙ and_high_mask 64 j (omega (arith, place)) (bit_and t s) below ∙ ap (λ n. n * 2 ^ j) (and_shr t s j) in
    ap₂ bit_or high (and_mask s j) ∙ or_shifted (bit_and (t / 2 ^ j) (s / 2 ^ j)) j (s % 2 ^ j) (omega (arith, pow_pos j))

-- what the code knows of j: outside t, bit j is the highest
pub record IsHighest (n j : ℕ) : Type 0 where
  pub from : 2 ^ j ≤ n
  pub below : n < 2 ^ suc j

-- a number by its half and its lowest bit
halves : (n b : ℕ) → n % 2 ≡ b → n ≡ n / 2 * 2 ^ 1 + b
halves n b e = omega (arith, e)

-- above j, t has no member outside s
above_of : (s t j i : ℕ) → s < 2 ^ 64 → t < 2 ^ 64 → bit_and t (bit_not w64 s) < 2 ^ suc j → Has (t / 2 ^ j / 2) i → Has (s / 2 ^ j / 2) i
above_of s t j i small_s small_t below p =
    let shifted = λ (n : ℕ). ap (λ m. m / 2 ^ i % 2) (shr-shr n j 1) ∙ ap (λ m. m % 2) (shr-shr n (j + 1) i) in
    elim (cases_eq (bit_at s (j + 1 + i)) 1) [
      | inl q ↦ shifted s ∙ q
      | inr n ↦
          let outside : Has (bit_and t (bit_not w64 s)) (j + 1 + i) = (has_minus t s (j + 1 + i) small_t small_s).1 (sym (shifted t) ∙ p, n) in
          absurd (omega (arith, bit_at_above (bit_and t (bit_not w64 s)) (suc j) (j + 1 + i) below (omega arith), outside))
    ]

-- what lies within an even number is even
even_within : (q s : ℕ) → bit_and q s ≡ q → s % 2 ≡ 0 → q % 2 ≡ 0
even_within q s e even =
    let lowest = bit_at_and q s 0 in
    let one : (n : ℕ) → n / 2 ^ 0 ≡ n = λ n. div-one n in
    omega (arith, ap (λ n. n % 2) (sym e), lowest, one q, one s, one (bit_and q s), even)

-- the odd number t / 2 ^ j loses its lowest bit, and no other
pub part-high : (s t j : ℕ) → s < 2 ^ 64 → t < 2 ^ 64 → IsHighest (bit_and t (bit_not w64 s)) j → (bit_and (t / 2 ^ j) (s / 2 ^ j) + 1 ≡ t / 2 ^ j) × (s / 2 ^ j % 2 ≡ 0) × (t / 2 ^ j % 2 ≡ 1)
part-high s t j small_s small_t h =
    let outside = bit_and t (bit_not w64 s) in
    let is_one : outside / 2 ^ j ≡ 1 = div-eq_of_lt-le {k = 1} (2 ^ j) (omega (arith, h.from)) (omega (arith, h.below, pow-succ' 2 j)) in
    let here = (has_minus t s j small_t small_s).0 (ap (λ n. n % 2) is_one) in
    let even : s / 2 ^ j % 2 ≡ 0 = elim (cases_eq (bit_at s j) 0) [ inl p ↦ p | inr n ↦ absurd (here.1 (omega (arith, bit_at-lt s j, n))) ] in
    let above : Within (t / 2 ^ j / 2) (s / 2 ^ j / 2) = λ i p. above_of s t j i small_s small_t h.below p in
    let both = (within_and (t / 2 ^ j / 2) (s / 2 ^ j / 2)).1 above in
    let odd : t / 2 ^ j % 2 ≡ 1 = here.0 in
    let joined = ap₂ bit_and (halves (t / 2 ^ j) 1 odd) (halves (s / 2 ^ j) 0 even) ∙ and_block 1 (t / 2 ^ j / 2) (s / 2 ^ j / 2) 1 0 (lit< tt) (lit< tt) in
    (omega (arith, joined, both, odd), even, odd)

-- the subsets that are at most t
pub part-greatest : (s t j q : ℕ) → s < 2 ^ 64 → t < 2 ^ 64 → j < 64 → IsHighest (bit_and t (bit_not w64 s)) j → Within q s → q ≤ t → q ≤ part_at s t j
part-greatest s t j q small_s small_t place h within most =
    let high = part-high s t j small_s small_t h in
    let subset : bit_and q s ≡ q = (within_and q s).1 within in
    let upper : q / 2 ^ j ≤ t / 2 ^ j = le-div (q / 2 ^ j) t (2 ^ j) (pow_pos j) (omega (arith, div-mul-le_self q (2 ^ j), most)) in
    let parity : bit_and (q / 2 ^ j) (s / 2 ^ j) ≡ q / 2 ^ j = sym (and_shr q s j) ∙ ap (λ n. n / 2 ^ j) subset in
    let even : q / 2 ^ j % 2 ≡ 0 = even_within (q / 2 ^ j) (s / 2 ^ j) parity high.1 in
    let quotient : q / 2 ^ j ≤ bit_and (t / 2 ^ j) (s / 2 ^ j) = omega (arith, high.0, upper, even, high.2) in
    let rest : q % 2 ^ j ≤ s % 2 ^ j = subst (λ n. n ≤ s % 2 ^ j) (sym (and_mod q s j) ∙ ap (λ n. n % 2 ^ j) subset) (and_le_r (q % 2 ^ j) (s % 2 ^ j)) in
    rw (part-sum s t j small_t place) (omega (arith, shr_split q j, mul-le (q / 2 ^ j) (2 ^ j) (bit_and (t / 2 ^ j) (s / 2 ^ j)) (2 ^ j) quotient (omega arith), rest))

pub part-below : (s t j : ℕ) → s < 2 ^ 64 → t < 2 ^ 64 → j < 64 → IsHighest (bit_and t (bit_not w64 s)) j → part_at s t j ≤ t
part-below s t j small_s small_t place h =
    let high = part-high s t j small_s small_t h in
    let whole : (bit_and (t / 2 ^ j) (s / 2 ^ j) + 1) * 2 ^ j ≡ bit_and (t / 2 ^ j) (s / 2 ^ j) * 2 ^ j + 2 ^ j = grind arith in
    rw (part-sum s t j small_t place) (omega (arith, shr_split t j, ap (λ n. n * 2 ^ j) high.0, whole, mod-lt s (pow_pos j)))
