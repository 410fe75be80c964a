-- What sums and products are that stop at an end.
use Rattle.std.proofs.Common.{◌≡◌, ◌∙◌, ◌⊎◌, inl, inr, ap, ℕ, ◌+◌, ◌*◌, ◌≤◌, zero, suc, min, List, [], ◌∷◌, fold, arith}
use Rattle.std.specs.Prelude.{sum}
use Rattle.std.proofs.Math.Nat.{mul-suc}
use Rattle.jp_query.specs.Scopes.{product}
use Rattle.jp_resolve_parts.specs.Bounds.{end, plus_stopped, times_stopped}

module _ (last : ℕ) where
  abbrev plus : ℕ → ℕ → ℕ
  plus a x = min (a + x) last

  abbrev times : ℕ → ℕ → ℕ
  times a x = min (a * x) last

  plus_again : (a x : ℕ) → plus (min a last) x ≡ min (a + x) last
  plus_again a x = omega arith

  last_times : (a n : ℕ) → last ≤ a → last ≤ a * suc n
  last_times a n h = omega (arith, mul-suc a n)

  by_case : (a x m : ℕ) → (m ≡ a) ⊎ ((m ≡ last) × (last ≤ a)) → times m x ≡ min (a * x) last
  by_case a x m (inl e) = ap (λ b. min (b * x) last) e
  by_case a zero m (inr h) = omega arith
  by_case a (suc n) m (inr h) = omega (arith, last_times a n h.1, last_times m n (omega arith))

  the_case : (a : ℕ) → (min a last ≡ a) ⊎ ((min a last ≡ last) × (last ≤ a))
  the_case a = grind arith

  times_again : (a x : ℕ) → times (min a last) x ≡ min (a * x) last
  times_again a x = by_case a x (min a last) (the_case a)

  sum_from : (a : ℕ) (xs : List ℕ) → fold plus (min a last) xs ≡ min (fold (λ b x. b + x) a xs) last
  sum_from a [] = omega arith
  sum_from a (x ∷ xs) = ap (λ b. fold plus b xs) (plus_again a x) ∙ sum_from (a + x) xs

  product_from : (a : ℕ) (xs : List ℕ) → fold times (min a last) xs ≡ min (fold ◌*◌ a xs) last
  product_from a [] = omega arith
  product_from a (x ∷ xs) = ap (λ b. fold times b xs) (times_again a x) ∙ product_from (a * x) xs

pub sum_stopped : (xs : List ℕ) → fold plus_stopped 0 xs ≡ min (sum xs) end
sum_stopped xs = sum_from end 0 xs

pub product_stopped : (xs : List ℕ) → fold times_stopped 1 xs ≡ min (product xs) end
product_stopped xs = product_from end 1 xs
