-- Lists whose numbers rise, from a first number on and below an end.
use Rattle.std.proofs.Common.{◌≡◌, ◌∙◌, ap, sym, subst, ℕ, suc, ◌<◌, ◌≤◌, inl, inr, List, [], ◌∷◌, ◌++◌, map, arith}
use Rattle.jp_induction.proofs.EachPart.{Each}
use Rattle.jp_facts.proofs.Members.{In}
use Rattle.jp_resolved.proofs.Members.{each_in}

module _ {X : Type 0} (number : X → ℕ) where
  abbrev pub Rising : ℕ → ℕ → List X → Type 0
  Rising a b [] = a ≤ b
  Rising a b (x ∷ xs) = (a ≤ number x) × Rising (suc (number x)) b xs

  pub rising_within : (a b : ℕ) (xs : List X) → Rising a b xs → a ≤ b
  rising_within a b [] h = h
  rising_within a b (x ∷ xs) h = let later : suc (number x) ≤ b = rising_within (suc (number x)) b xs h.1 in omega (arith, h.0, later)

  pub rising_wider : (a b c d : ℕ) (xs : List X) → c ≤ a → b ≤ d → Rising a b xs → Rising c d xs
  rising_wider a b c d [] low high h = omega (arith, low, high, h)
  rising_wider a b c d (x ∷ xs) low high h = (omega (arith, low, h.0), rising_wider (suc (number x)) b (suc (number x)) d xs (omega arith) high h.1)

  pub rising_append : (a m b : ℕ) (xs ys : List X) → Rising a m xs → Rising m b ys → Rising a b (xs ++ ys)
  rising_append a m b [] ys p q = rising_wider m b a b ys p (omega arith) q
  rising_append a m b (x ∷ xs) ys p q = (p.0, rising_append (suc (number x)) m b xs ys p.1 q)

  abbrev pub IsBetween : ℕ → ℕ → X → Type 0
  IsBetween a b x = (a ≤ number x) × (number x < b)

  pub between_wider : (a b c d : ℕ) → c ≤ a → b ≤ d → (xs : List X) → Each (IsBetween a b) xs → Each (IsBetween c d) xs
  between_wider a b c d low high [] h = tt
  between_wider a b c d low high (x ∷ xs) h = ((omega (arith, low, h.0.0), omega (arith, high, h.0.1)), between_wider a b c d low high xs h.1)

  pub rising_between : (a b : ℕ) (xs : List X) → Rising a b xs → Each (IsBetween a b) xs
  rising_between a b [] h = tt
  rising_between a b (x ∷ xs) h =
      let later : suc (number x) ≤ b = rising_within (suc (number x)) b xs h.1 in
      ((h.0, omega (arith, later)), between_wider (suc (number x)) b a b (omega (arith, h.0)) (omega arith) xs (rising_between (suc (number x)) b xs h.1))

  pub in_between : (a b : ℕ) (x : X) (xs : List X) → Each (IsBetween a b) xs → In x xs → IsBetween a b x
  in_between a b x xs each h = each_in (IsBetween a b) x xs each h

  -- two members of one number are one
  pub rising_same : (a b : ℕ) (xs : List X) → Rising a b xs → (x y : X) → In x xs → In y xs → number x ≡ number y → x ≡ y
  rising_same a b [] h x y p q e = absurd p
  rising_same a b (z ∷ zs) h x y (inl p) (inl q) e = sym p ∙ q
  rising_same a b (z ∷ zs) h x y (inl p) (inr q) e =
      let later = in_between (suc (number z)) b y zs (rising_between (suc (number z)) b zs h.1) q in
      let same : number z ≡ number x = ap number p in
      absurd (omega (arith, later.0, same, e))
  rising_same a b (z ∷ zs) h x y (inr p) (inl q) e =
      let later = in_between (suc (number z)) b x zs (rising_between (suc (number z)) b zs h.1) p in
      let same : number z ≡ number y = ap number q in
      absurd (omega (arith, later.0, same, e))
  rising_same a b (z ∷ zs) h x y (inr p) (inr q) e = rising_same (suc (number z)) b zs h.1 x y p q e

module _ {X Y : Type 0} (number : X → ℕ) (count : Y → ℕ) (f : X → Y) where
  -- what keeps numbers keeps them rising
  pub rising_map : ((x : X) → count (f x) ≡ number x) → (a b : ℕ) (xs : List X) → Rising number a b xs → Rising count a b (map f xs)
  rising_map same a b [] h = h
  rising_map same a b (x ∷ xs) h = (subst (λ n. a ≤ n) (sym (same x)) h.0, subst (λ n. Rising count (suc n) b (map f xs)) (sym (same x)) (rising_map same (suc (number x)) b xs h.1))
