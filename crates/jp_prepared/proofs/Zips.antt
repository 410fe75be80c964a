-- Members of lists that are paired place by place.
use Rattle.std.proofs.Common.{subst, refl, inl, inr, List, [], ◌∷◌}
use Rattle.std.specs.List.{AllZip}
use Rattle.jp_facts.proofs.Members.{In}
use Rattle.jp_laws.proofs.EachPart.{Each}

module _ {X Y : Type 0} (R : X → Y → Type 0) where
  pub of_second : (xs : List X) (ys : List Y) → AllZip R xs ys → (y : Y) → In y ys → (x : X) × In x xs × R x y
  of_second [] [] h y m = absurd m
  of_second [] (z ∷ ys) h y m = absurd h
  of_second (x ∷ xs) [] h y m = absurd h
  of_second (x ∷ xs) (z ∷ ys) h y (inl e) = (x, inl refl, subst (R x) e h.0)
  of_second (x ∷ xs) (z ∷ ys) h y (inr m) = let r = of_second xs ys h.1 y m in (r.0, inr r.1, r.2)

  pub of_first : (xs : List X) (ys : List Y) → AllZip R xs ys → (x : X) → In x xs → (y : Y) × In y ys × R x y
  of_first [] [] h x m = absurd m
  of_first [] (z ∷ ys) h x m = absurd h
  of_first (z ∷ xs) [] h x m = absurd h
  of_first (z ∷ xs) (y ∷ ys) h x (inl e) = (y, inl refl, subst (λ w. R w y) e h.0)
  of_first (z ∷ xs) (y ∷ ys) h x (inr m) = let r = of_first xs ys h.1 x m in (r.0, inr r.1, r.2)

  pub each_zipped : (P : Y → Type 0) (xs : List X) (ys : List Y) → AllZip R xs ys → ((x : X) (y : Y) → In x xs → R x y → P y) → Each P ys
  each_zipped P [] [] h f = tt
  each_zipped P [] (y ∷ ys) h f = absurd h
  each_zipped P (x ∷ xs) [] h f = absurd h
  each_zipped P (x ∷ xs) (y ∷ ys) h f = (f x y (inl refl) h.0, each_zipped P xs ys h.1 (λ w z m r. f w z (inr m) r))
