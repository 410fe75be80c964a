-- Lists whose members are numbered in order.
use Rattle.std.proofs.Common.{◌≡◌, ◌∙◌, ap, sym, subst, ℕ, zero, suc, ◌+◌, ◌<◌, inl, inr, List, [], ◌∷◌, ◌++◌, map, length, Some, arith}
use Rattle.std.specs.Prelude.{slice_get}
use Rattle.jp_facts.proofs.Members.{In}

module _ {X : Type 0} (no : X → ℕ) where
  abbrev pub Numbered : ℕ → List X → Type 0
  Numbered first [] = Unit {0}
  Numbered first (x ∷ xs) = (no x ≡ suc first) × Numbered (suc first) xs

  pub numbered_append : (first : ℕ) (xs ys : List X) → Numbered first xs → Numbered (first + length xs) ys → Numbered first (xs ++ ys)
  numbered_append first [] ys p q = subst (λ n. Numbered n ys) (omega arith) q
  numbered_append first (x ∷ xs) ys p q = (p.0, numbered_append (suc first) xs ys p.1 (subst (λ n. Numbered n ys) (omega arith) q))

  pub number_at : (first : ℕ) (xs : List X) (k : ℕ) (x : X) → Numbered first xs → slice_get xs k ≡ Some x → no x ≡ suc (first + k)
  number_at first [] k x p e = cc
  number_at first (y ∷ xs) zero x p e = ap no (sym (same y x e)) ∙ p.0 ∙ omega arith
    where
      same : (a b : X) → Some a ≡ Some b → a ≡ b
      same a b e = cc
  number_at first (y ∷ xs) (suc k) x p e = number_at (suc first) xs k x p.1 e ∙ omega arith

  pub above : (first : ℕ) (xs : List X) (x : X) → Numbered first xs → In x xs → first < no x
  above first [] x p h = absurd h
  above first (y ∷ xs) x p (inl e) = subst (λ z. first < no z) e (omega (arith, p.0))
  above first (y ∷ xs) x p (inr h) = let k = above (suc first) xs x p.1 h in omega (arith, k)

  pub one_numbered : (first : ℕ) (xs : List X) (x y : X) → Numbered first xs → In x xs → In y xs → no x ≡ no y → x ≡ y
  one_numbered first [] x y p h k e = absurd h
  one_numbered first (z ∷ xs) x y p (inl f) (inl g) e = sym f ∙ g
  one_numbered first (z ∷ xs) x y p (inl f) (inr g) e = let low = above (suc first) xs y p.1 g in absurd (omega (arith, low, p.0, e, ap no f))
  one_numbered first (z ∷ xs) x y p (inr f) (inl g) e = let low = above (suc first) xs x p.1 f in absurd (omega (arith, low, p.0, e, ap no g))
  one_numbered first (z ∷ xs) x y p (inr f) (inr g) e = one_numbered (suc first) xs x y p.1 f g e

module _ {X : Type 0} where
  pub at_place : (xs : List X) (x : X) → In x xs → (k : ℕ) × (slice_get xs k ≡ Some x)
  at_place [] x h = absurd h
  at_place (y ∷ xs) x (inl e) = (0, ap Some e)
  at_place (y ∷ xs) x (inr h) = let r = at_place xs x h in (suc r.0, r.1)

  pub from_place : (xs : List X) (k : ℕ) (x : X) → slice_get xs k ≡ Some x → In x xs
  from_place [] k x e = cc
  from_place (y ∷ xs) zero x e = inl (same y x e)
    where
      same : (a b : X) → Some a ≡ Some b → a ≡ b
      same a b e = cc
  from_place (y ∷ xs) (suc k) x e = inr (from_place xs k x e)

module _ {X Y : Type 0} (f : X → Y) (no : X → ℕ) (label : Y → ℕ) (same : (x : X) → label (f x) ≡ no x) where
  pub numbered_map : (first : ℕ) (xs : List X) → Numbered no first xs → Numbered label first (map f xs)
  numbered_map first [] p = tt
  numbered_map first (x ∷ xs) p = (same x ∙ p.0, numbered_map (suc first) xs p.1)

  pub numbered_mapped : (first : ℕ) (xs : List X) → Numbered label first (map f xs) → Numbered no first xs
  numbered_mapped first [] p = tt
  numbered_mapped first (x ∷ xs) p = (sym (same x) ∙ p.0, numbered_mapped (suc first) xs p.1)
