-- A smaller set has no more members.
use Rattle.std.proofs.Common.{◌≡◌, sym, subst, ℕ, zero, suc, ◌+◌, ◌/◌, ◌%◌, ◌≤◌, arith}
use Rattle.std.specs.Prelude.{count_ones}
use Rattle.std.specs.Int.{bit_at}
use Rattle.std.specs.Int.Count.{ones_step}
use Rattle.std.proofs.lemmas.Nat.Bits.{bit_at_lowest, bit_at-suc, bit_at-lt}
use Rattle.jp_base.specs.Sets.{Within}

lowest : (a b : ℕ) → Within a b → (d : ℕ) → bit_at a 0 ≡ d → a % 2 ≤ b % 2
lowest a b h zero e = omega (arith, bit_at_lowest a, e)
lowest a b h (suc zero) e = omega (arith, bit_at_lowest a, bit_at_lowest b, e, h 0 e)
lowest a b h (suc (suc d)) e = absurd (omega (arith, bit_at-lt a 0, e))

by_halves : (n a b : ℕ) → a ≤ n → b ≤ n → Within a b → count_ones a ≤ count_ones b
by_halves zero a b la lb h = let same : a ≡ b = omega arith in subst (λ c. count_ones a ≤ count_ones c) same (omega arith)
by_halves (suc n) a b la lb h =
    let inner = by_halves n (a / 2) (b / 2) (omega arith) (omega arith) (λ i e. subst (λ k. k ≡ 1) (bit_at-suc b i) (h (suc i) (subst (λ k. k ≡ 1) (sym (bit_at-suc a i)) e))) in
    omega (arith, ones_step a, ones_step b, inner, lowest a b h (bit_at a 0) (λ i. bit_at a 0))

pub fewer_ones : (a b : ℕ) → Within a b → count_ones a ≤ count_ones b
fewer_ones a b h = by_halves (a + b) a b (omega arith) (omega arith) h
