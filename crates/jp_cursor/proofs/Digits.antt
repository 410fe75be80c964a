-- The value of digits, read from the left.
use Rattle.std.proofs.Common.{◌≡◌, ℕ, ◌+◌, ◌-◌, ◌*◌, ◌<◌, ◌≤◌, List, [], ◌∷◌, fold, subst, ◌^◌, arith}

-- more digits make no number smaller
pub grows : (n : ℕ) (digits : List ℕ) → n ≤ fold (λ n b. 10 * n + (b - 48)) n digits
grows n [] = omega arith
grows n (b ∷ digits) = let e = grows (10 * n + (b - 48)) digits in omega arith

-- the number with the next digit is no greater than the number of them all
pub next_fits : (n b : ℕ) (digits rest : List ℕ) → digits ≡ b ∷ rest → fold (λ n b. 10 * n + (b - 48)) n digits < 2 ^ 127 → 10 * n + (b - 48) < 2 ^ 127
next_fits n b digits rest e h = let g = grows (10 * n + (b - 48)) rest in let k : fold (λ n b. 10 * n + (b - 48)) (10 * n + (b - 48)) rest < 2 ^ 127 = subst (λ ds. fold (λ n b. 10 * n + (b - 48)) n ds < 2 ^ 127) e h in omega arith
