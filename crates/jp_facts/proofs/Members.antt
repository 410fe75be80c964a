-- Members of lists, and lists that hold each member once.
use Rattle.std.proofs.Common.{◌≡◌, ◌∙◌, ap, sym, subst, refl, ℕ, suc, zero, ◌<◌, ◌⊎◌, inl, inr, Bool, true, false, cond, List, [], ◌∷◌, ◌++◌, map, filter, length, get_or, arith}
use Rattle.std.specs.List.{list_any, flat_map}
use Rattle.std.specs.Prelude.{Contains}
use Rattle.std.proofs.lemmas.Bool.{or_parts, or_from, or_cases, or_left, or_right}

abbrev pub In : {X : Type 0} → X → List X → Type 0
In x [] = ⊥
In x (y ∷ ys) = (y ≡ x) ⊎ In x ys

abbrev pub Distinct : {X : Type 0} → List X → Type 0
Distinct [] = Unit {0}
Distinct (x ∷ xs) = (¬ In x xs) × Distinct xs

module _ {X : Type 0} where
  in_at : (x : X) (xs : List X) (k : ℕ) → k < length xs → get_or xs k x ≡ x → In x xs
  in_at x [] k low e = absurd (omega arith)
  in_at x (y ∷ ys) zero low e = inl e
  in_at x (y ∷ ys) (suc k) low e = inr (in_at x ys k (omega arith) e)

  pub to_in : (x : X) (xs : List X) → Contains xs x → In x xs
  to_in x xs h = in_at x xs h.0 h.1 h.2

  pub from_in : (x : X) (xs : List X) → In x xs → Contains xs x
  from_in x [] h = absurd h
  from_in x (y ∷ ys) (inl e) = (0, omega arith, e)
  from_in x (y ∷ ys) (inr r) = let h = from_in x ys r in (suc h.0, omega (arith, h.1), h.2)

  pub in_append_left : (x : X) (xs ys : List X) → In x xs → In x (xs ++ ys)
  in_append_left x [] ys h = absurd h
  in_append_left x (z ∷ xs) ys (inl e) = inl e
  in_append_left x (z ∷ xs) ys (inr r) = inr (in_append_left x xs ys r)

  pub in_append_right : (x : X) (xs ys : List X) → In x ys → In x (xs ++ ys)
  in_append_right x [] ys h = h
  in_append_right x (z ∷ xs) ys h = inr (in_append_right x xs ys h)

  pub from_append : (x : X) (xs ys : List X) → In x (xs ++ ys) → In x xs ⊎ In x ys
  from_append x [] ys h = inr h
  from_append x (z ∷ xs) ys (inl e) = inl (inl e)
  from_append x (z ∷ xs) ys (inr r) = elim (from_append x xs ys r) [ inl h ↦ inl (inr h) | inr h ↦ inr h ]

  filtered_at : (p : X → Bool) (x y : X) (ys : List X) (b : Bool) → p y ≡ b → (In x (filter p ys) → (p x ≡ true) × In x ys) → In x (cond b (y ∷ filter p ys) (filter p ys)) → (p x ≡ true) × In x (y ∷ ys)
  filtered_at p x y ys true e ih (inl q) = (ap p (sym q) ∙ e, inl q)
  filtered_at p x y ys true e ih (inr r) = let h = ih r in (h.0, inr h.1)
  filtered_at p x y ys false e ih r = let h = ih r in (h.0, inr h.1)

  pub from_filter : (p : X → Bool) (x : X) (xs : List X) → In x (filter p xs) → (p x ≡ true) × In x xs
  from_filter p x [] h = absurd h
  from_filter p x (y ∷ ys) h = filtered_at p x y ys (p y) refl (from_filter p x ys) h

  stays : (x y : X) (ys : List X) (b : Bool) → In x ys → In x (cond b (y ∷ ys) ys)
  stays x y ys true r = inr r
  stays x y ys false r = r

  pub in_filter : (p : X → Bool) (x : X) (xs : List X) → p x ≡ true → In x xs → In x (filter p xs)
  in_filter p x [] e h = absurd h
  in_filter p x (y ∷ ys) e (inl q) = subst (λ b. In x (cond b (y ∷ filter p ys) (filter p ys))) (sym (ap p q ∙ e)) (inl q)
  in_filter p x (y ∷ ys) e (inr r) = stays x y (filter p ys) (p y) (in_filter p x ys e r)

  pub any_in : (p : X → Bool) (x : X) (xs : List X) → In x xs → p x ≡ true → list_any p xs ≡ true
  any_in p x [] h e = absurd h
  any_in p x (y ∷ ys) (inl q) e = or_left (p y) (list_any p ys) (ap p q ∙ e)
  any_in p x (y ∷ ys) (inr r) e = or_right (p y) (list_any p ys) (any_in p x ys r e)

  pub from_any : (p : X → Bool) (xs : List X) → list_any p xs ≡ true → (x : X) × In x xs × (p x ≡ true)
  from_any p [] e = cc
  from_any p (y ∷ ys) e = elim (or_cases (p y) (list_any p ys) e) [ inl q ↦ (y, inl refl, q) | inr q ↦ let h = from_any p ys q in (h.0, inr h.1, h.2) ]

  pub any_none : (p : X → Bool) (x : X) (xs : List X) → list_any p xs ≡ false → In x xs → p x ≡ false
  any_none p x [] e h = absurd h
  any_none p x (y ∷ ys) e (inl q) = ap p (sym q) ∙ (or_parts (p y) (list_any p ys) e).0
  any_none p x (y ∷ ys) e (inr r) = any_none p x ys (or_parts (p y) (list_any p ys) e).1 r

  pub none_any : (p : X → Bool) (xs : List X) → ((x : X) → In x xs → p x ≡ false) → list_any p xs ≡ false
  none_any p [] h = refl
  none_any p (y ∷ ys) h = or_from (p y) (list_any p ys) (h y (inl refl)) (none_any p ys (λ x r. h x (inr r)))

  distinct_cond : (p : X → Bool) (x : X) (xs : List X) (b : Bool) → (In x xs → ⊥) → Distinct (filter p xs) → Distinct (cond b (x ∷ filter p xs) (filter p xs))
  distinct_cond p x xs true h d = (λ r. h (from_filter p x xs r).1, d)
  distinct_cond p x xs false h d = d

  pub distinct_filter : (p : X → Bool) (xs : List X) → Distinct xs → Distinct (filter p xs)
  distinct_filter p [] d = tt
  distinct_filter p (x ∷ xs) d = distinct_cond p x xs (p x) d.0 (distinct_filter p xs d.1)

  pub distinct_append : (xs ys : List X) → Distinct xs → Distinct ys → ((x : X) → In x xs → In x ys → ⊥) → Distinct (xs ++ ys)
  distinct_append [] ys d e apart = e
  distinct_append (x ∷ xs) ys d e apart =
      (λ h. elim (from_append x xs ys h) [ inl p ↦ d.0 p | inr q ↦ apart x (inl refl) q ], distinct_append xs ys d.1 e (λ y p q. apart y (inr p) q))

module _ {X Y : Type 0} where
  pub in_map : (g : X → Y) (x : X) (xs : List X) → In x xs → In (g x) (map g xs)
  in_map g x [] h = absurd h
  in_map g x (y ∷ ys) (inl e) = inl (ap g e)
  in_map g x (y ∷ ys) (inr r) = inr (in_map g x ys r)

  pub from_map : (g : X → Y) (z : Y) (xs : List X) → In z (map g xs) → (x : X) × In x xs × (g x ≡ z)
  from_map g z [] h = absurd h
  from_map g z (y ∷ ys) (inl e) = (y, inl refl, e)
  from_map g z (y ∷ ys) (inr r) = let h = from_map g z ys r in (h.0, inr h.1, h.2)

  pub in_flat_map : (g : X → List Y) (x : X) (z : Y) (xs : List X) → In x xs → In z (g x) → In z (flat_map g xs)
  in_flat_map g x z [] h k = absurd h
  in_flat_map g x z (y ∷ ys) (inl e) k = in_append_left z (g y) (flat_map g ys) (subst (λ w. In z (g w)) (sym e) k)
  in_flat_map g x z (y ∷ ys) (inr r) k = in_append_right z (g y) (flat_map g ys) (in_flat_map g x z ys r k)

  pub from_flat_map : (g : X → List Y) (z : Y) (xs : List X) → In z (flat_map g xs) → (x : X) × In x xs × In z (g x)
  from_flat_map g z [] h = absurd h
  from_flat_map g z (y ∷ ys) h = elim (from_append z (g y) (flat_map g ys) h) [ inl p ↦ (y, inl refl, p) | inr q ↦ let k = from_flat_map g z ys q in (k.0, inr k.1, k.2) ]

  pub distinct_map : (g : X → Y) (xs : List X) → Distinct xs → ((x y : X) → In x xs → In y xs → g x ≡ g y → x ≡ y) → Distinct (map g xs)
  distinct_map g [] d one = tt
  distinct_map g (x ∷ xs) d one =
      (λ h. let k = from_map g (g x) xs h in d.0 (subst (λ w. In w xs) (one k.0 x (inr k.1) (inl refl) k.2) k.1), distinct_map g xs d.1 (λ a b p q. one a b (inr p) (inr q)))

  pub distinct_flat_map : (g : X → List Y) (xs : List X) → Distinct xs → ((x : X) → In x xs → Distinct (g x)) → ((x y : X) (z : Y) → In x xs → In y xs → In z (g x) → In z (g y) → x ≡ y) → Distinct (flat_map g xs)
  distinct_flat_map g [] d each one = tt
  distinct_flat_map g (x ∷ xs) d each one =
      distinct_append (g x) (flat_map g xs) (each x (inl refl)) (distinct_flat_map g xs d.1 (λ y r. each y (inr r)) (λ a b z p q. one a b z (inr p) (inr q)))
      (λ z p q. let k = from_flat_map g z xs q in d.0 (subst (λ w. In w xs) (one k.0 x z (inr k.1) (inl refl) k.2 p) k.1))
