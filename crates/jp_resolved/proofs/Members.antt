-- What members of a list have, and the lists that expressions gather.
use Rattle.std.proofs.Common.{ap, sym, subst, refl, inl, inr, List, [], ◌∷◌, map}
use Rattle.jp_query.specs.Parts.{all_in}
use Rattle.jp_induction.specs.Each.{Each}
use Rattle.jp_facts.proofs.Members.{In, in_append_left, in_append_right}

module _ {X : Type 0} (P : X → Type 0) where
  pub each_in : (x : X) (xs : List X) → Each P xs → In x xs → P x
  each_in x [] each h = absurd h
  each_in x (y ∷ ys) each (inl e) = subst P e each.0
  each_in x (y ∷ ys) each (inr r) = each_in x ys each.1 r

  pub each_from : (xs : List X) → ((x : X) → In x xs → P x) → Each P xs
  each_from [] h = tt
  each_from (x ∷ xs) h = (h x (inl refl), each_from xs (λ y r. h y (inr r)))

module _ {X Y : Type 0} (f : X → Y) where
  pub in_map : (x : X) (xs : List X) → In x xs → In (f x) (map f xs)
  in_map x [] h = absurd h
  in_map x (y ∷ ys) (inl e) = inl (ap f e)
  in_map x (y ∷ ys) (inr r) = inr (in_map x ys r)

-- what one of several gives is among what all give
pub in_all : {X Y : Type 0} (f : Y → List X) (e : Y) (es : List Y) (x : X) → In e es → In x (f e) → In x (all_in (map f es))
in_all f e [] x h p = absurd h
in_all f e (g ∷ es) x (inl same) p = in_append_left x (f g) (all_in (map f es)) (subst (λ k. In x (f k)) (sym same) p)
in_all f e (g ∷ es) x (inr r) p = in_append_right x (f g) (all_in (map f es)) (in_all f e es x r p)
