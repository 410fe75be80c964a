-- Members of a list by their places, also counted from its end.
use Rattle.std.proofs.Common.{◌≡◌, ◌∙◌, ap, sym, refl, ℕ, zero, suc, ◌+◌, ◌<◌, ◌⊎◌, inl, inr, List, [], ◌∷◌, ◌++◌, length, slice_get, Some, arith, length-append}
use Rattle.jp_facts.proofs.Members.{In}
use Rattle.jp_session.specs.Turned.{turned}

module _ {X : Type 0} where
  unsome : (x y : X) → Some x ≡ Some y → x ≡ y
  unsome x y e = cc

  pub front : (xs ys : List X) (i : ℕ) (x : X) → slice_get xs i ≡ Some x → slice_get (xs ++ ys) i ≡ Some x
  front [] ys i x e = cc
  front (z ∷ xs) ys zero x e = e
  front (z ∷ xs) ys (suc i) x e = front xs ys i x e

  pub seam : (xs ys : List X) (x : X) → slice_get (xs ++ x ∷ ys) (length xs) ≡ Some x
  seam [] ys x = refl
  seam (z ∷ xs) ys x = seam xs ys x

  pub within : (xs : List X) (i : ℕ) (x : X) → slice_get xs i ≡ Some x → i < length xs
  within [] i x e = cc
  within (z ∷ xs) zero x e = omega arith
  within (z ∷ xs) (suc i) x e = omega (arith, within xs i x e)

  pub there : (xs : List X) (i : ℕ) → i < length xs → (x : X) × (slice_get xs i ≡ Some x)
  there [] i low = absurd (omega arith)
  there (z ∷ xs) zero low = (z, refl)
  there (z ∷ xs) (suc i) low = there xs i (omega arith)

  pub one_there : (xs : List X) (i : ℕ) (x y : X) → slice_get xs i ≡ Some x → slice_get xs i ≡ Some y → x ≡ y
  one_there xs i x y e f = unsome x y (sym e ∙ f)

  pub last_or_before : (xs : List X) (y : X) (i : ℕ) (x : X) → slice_get (xs ++ y ∷ []) i ≡ Some x → (slice_get xs i ≡ Some x) ⊎ ((i ≡ length xs) × (y ≡ x))
  last_or_before [] y zero x e = inr (refl, unsome y x e)
  last_or_before [] y (suc i) x e = cc
  last_or_before (z ∷ xs) y zero x e = inl e
  last_or_before (z ∷ xs) y (suc i) x e = elim (last_or_before xs y i x e) [
    | inl h ↦ inl h
    | inr h ↦ inr (ap suc h.0, h.1)
  ]

  pub at_in : (xs : List X) (i : ℕ) (x : X) → slice_get xs i ≡ Some x → In x xs
  at_in [] i x e = cc
  at_in (z ∷ xs) zero x e = inl (unsome z x e)
  at_in (z ∷ xs) (suc i) x e = inr (at_in xs i x e)

  pub place_in : (x : X) (xs : List X) → In x xs → (i : ℕ) × (slice_get xs i ≡ Some x)
  place_in x [] h = absurd h
  place_in x (z ∷ xs) (inl e) = (0, ap Some e)
  place_in x (z ∷ xs) (inr h) = let p = place_in x xs h in (suc p.0, p.1)

-- ---- from the end

module _ {X Y : Type 0} (f : X → Y) where
  pub turned_length : (xs : List X) → length (turned f xs) ≡ length xs
  unfolding turned
  turned_length [] = refl
  turned_length (x ∷ xs) = omega (arith, turned_length xs, length-append (turned f xs) (f x ∷ []))

  pub turned_at : (xs : List X) (i k : ℕ) (x : X) → i + k + 1 ≡ length xs → slice_get xs i ≡ Some x → slice_get (turned f xs) k ≡ Some (f x)
  unfolding turned
  turned_at [] i k x e g = absurd (omega arith)
  turned_at (z ∷ xs) zero k x e g =
      let last : k ≡ length (turned f xs) = omega (arith, turned_length xs) in
      ap (slice_get (turned f xs ++ f z ∷ [])) last ∙ seam (turned f xs) [] (f z) ∙ ap (λ y. Some (f y)) (unsome z x g)
  turned_at (z ∷ xs) (suc i) k x e g = front (turned f xs) (f z ∷ []) k (f x) (turned_at xs i k x (omega arith) g)

  -- what stands at a number from the end
  pub record FromEnd (xs : List X) (k : ℕ) (y : Y) : Type 0 where
    pub place : ℕ
    pub member : X
    pub counted : place + k + 1 ≡ length xs
    pub there : slice_get xs place ≡ Some member
    pub is : f member ≡ y

  pub from_turned : (xs : List X) (k : ℕ) (y : Y) → slice_get (turned f xs) k ≡ Some y → FromEnd xs k y
  unfolding turned
  from_turned [] k y e = cc
  from_turned (z ∷ xs) k y e = elim (last_or_before (turned f xs) (f z) k y e) [
    | inl h ↦ (let r = from_turned xs k y h in record { place = suc r.place; member = r.member; counted = omega (arith, r.counted); there = r.there; is = r.is })
    | inr h ↦ record { place = 0; member = z; counted = omega (arith, h.0, turned_length xs); there = refl; is = h.1 }
  ]
