-- Two lists that rise by one weak order, and have the same elements that tie with each value, are equal.
use Rattle.std.proofs.Common.{◌≡◌, ◌∙◌, ap, sym, subst, refl, ℕ, suc, ◌<◌, ◌≤◌, inl, inr, Bool, true, false, cond, not, ◌&&◌, List, [], ◌∷◌, filter, length, get_or, arith}
use Rattle.std.specs.Cmp.{IsStrictWeakOrder}
use Rattle.std.specs.List.Sorted.{IsSortedBy, IsStableBy, ties}
use Rattle.std.proofs.lemmas.List.Sorted.{sorted_far}
use Rattle.jp_query.specs.Ordering.{Line, Direction, is_before, sorted}
use Rattle.jp_facts.proofs.Members.{In, from_in, from_filter}
use Rattle.jp_laws.proofs.SortLaws.{neighbours, stable}
use Rattle.jp_laws.proofs.ValueLaws.{lines_weak}

no_self : (b : Bool) → (b ≡ true → b ≡ false) → b ≡ false
no_self true h = h refl
no_self false h = refl

both_not : (a b : Bool) → a ≡ false → b ≡ false → (not a && not b) ≡ true
both_not a b p q = ap (λ c. not c && not b) p ∙ ap not q

module _ {X : Type 0} where
  abbrev head_or : X → List X → X
  head_or d [] = d
  head_or d (x ∷ xs) = x

  abbrev rest : List X → List X
  rest [] = []
  rest (x ∷ xs) = xs

  cancel : (x : X) (b : Bool) (xs ys : List X) → cond b (x ∷ xs) xs ≡ cond b (x ∷ ys) ys → xs ≡ ys
  cancel x true xs ys e = ap rest e
  cancel x false xs ys e = e

  first_kept : (p : X → Bool) (x : X) (xs : List X) → p x ≡ true → filter p (x ∷ xs) ≡ x ∷ filter p xs
  first_kept p x xs e = ap (λ b. cond b (x ∷ filter p xs) (filter p xs)) e

  module _ (lt : X → X → Bool) (o : IsStrictWeakOrder lt) where
    abbrev Above : X → List X → Type 0
    Above x xs = (z : X) → In z xs → lt z x ≡ false

    abbrev Rises : List X → Type 0
    Rises [] = Unit {0}
    Rises (x ∷ xs) = Above x xs × Rises xs

    abbrev Far : List X → Type 0
    Far xs = (i j : ℕ) (d : X) → i ≤ j → j < length xs → lt (get_or xs j d) (get_or xs i d) ≡ false

    above : (x : X) (xs : List X) → Far (x ∷ xs) → Above x xs
    above x xs far z h = let c = from_in z xs h in ap (λ w. lt w x) (sym c.2) ∙ far 0 (suc c.0) z (omega arith) (omega (arith, c.1))

    rises : (xs : List X) → Far xs → Rises xs
    rises [] far = tt
    rises (x ∷ xs) far = (above x xs far, rises xs (λ i j d a b. far (suc i) (suc j) d (omega (arith, a)) (omega (arith, b))))

    never : (x : X) → lt x x ≡ false
    never x = no_self (lt x x) (o.one_way x x)

    tied : (x y : X) → lt x y ≡ false → lt y x ≡ false → ties lt x y ≡ true
    tied x y p q = both_not (lt x y) (lt y x) p q

    found : (x : X) (xs ys : List X) → filter (ties lt x) (x ∷ xs) ≡ filter (ties lt x) ys → In x ys
    found x xs ys e = (from_filter (ties lt x) x ys (subst (λ zs. In x zs) (sym (first_kept (ties lt x) x xs (tied x x (never x) (never x))) ∙ e) (inl refl))).1

    not_below : (x y : X) (ys : List X) → Above y ys → In x (y ∷ ys) → lt x y ≡ false
    not_below x y ys a (inl e) = ap (λ z. lt z y) (sym e) ∙ never y
    not_below x y ys a (inr r) = a x r

    abbrev SameTies : List X → List X → Type 0
    SameTies xs ys = (z : X) → filter (ties lt z) xs ≡ filter (ties lt z) ys

    heads : (x y : X) (xs ys : List X) → Above x xs → Above y ys → SameTies (x ∷ xs) (y ∷ ys) → x ≡ y
    heads x y xs ys a b e =
        let p : lt x y ≡ false = not_below x y ys b (found x xs (y ∷ ys) (e x)) in
        let q : lt y x ≡ false = not_below y x xs a (found y ys (x ∷ xs) (sym (e y))) in
        ap (head_or x) (sym (first_kept (ties lt x) x xs (tied x x (never x) (never x))) ∙ e x ∙ first_kept (ties lt x) y ys (tied x y p q))

    tails : (x y : X) (xs ys : List X) → x ≡ y → SameTies (x ∷ xs) (y ∷ ys) → SameTies xs ys
    tails x y xs ys h e z = cancel x (ties lt z x) (filter (ties lt z) xs) (filter (ties lt z) ys) (e z ∙ ap (λ w. filter (ties lt z) (w ∷ ys)) (sym h))

    same : (xs ys : List X) → Rises xs → Rises ys → SameTies xs ys → xs ≡ ys
    same [] [] r s e = refl
    same [] (y ∷ ys) r s e = absurd (found y ys [] (sym (e y)))
    same (x ∷ xs) [] r s e = absurd (found x xs [] (e x))
    same (x ∷ xs) (y ∷ ys) r s e =
        let h : x ≡ y = heads x y xs ys r.0 s.0 e in
        ap (λ w. w ∷ xs) h ∙ ap (λ ws. y ∷ ws) (same xs ys r.1 s.1 (tails x y xs ys h e))

    pub one_list : (xs ys : List X) → IsSortedBy lt xs → IsSortedBy lt ys → ((z : X) → filter (ties lt z) xs ≡ filter (ties lt z) ys) → xs ≡ ys
    one_list xs ys a b e = same xs ys (rises xs (sorted_far lt o xs a)) (rises ys (sorted_far lt o ys b)) e

pub only_sort : (keys : List Direction) (lines others : List Line) → IsSortedBy (is_before keys) others → IsStableBy (is_before keys) lines others → others ≡ sorted keys lines
only_sort keys lines others up keeps = one_list (is_before keys) (lines_weak keys) others (sorted keys lines) up (neighbours keys lines) (λ z. keeps z ∙ sym (stable keys lines z))
