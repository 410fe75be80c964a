-- Tests of all members of a list.
use Rattle.std.proofs.Common.{◌≡◌, refl, Bool, true, ◌&&◌, List, [], ◌∷◌, map}
use Rattle.jp_query.specs.Conditions.{all_true}
use Rattle.jp_laws.proofs.EachPart.{Each}
use Rattle.jp_laws.proofs.ValueLaws.{and_left, and_right}

module _ {X : Type 0} (f : X → Bool) where
  pub all_of : (xs : List X) → Each (λ x. f x ≡ true) xs → all_true (map f xs) ≡ true
  all_of [] h = refl
  all_of (x ∷ xs) h = λ i. h.0 i && all_of xs h.1 i

  pub each_from : (xs : List X) → all_true (map f xs) ≡ true → Each (λ x. f x ≡ true) xs
  each_from [] h = tt
  each_from (x ∷ xs) h = (and_left (f x) (all_true (map f xs)) h, each_from xs (and_right (f x) (all_true (map f xs)) h))

pub both : (a b : Bool) → a ≡ true → b ≡ true → (a && b) ≡ true
both a b h k = λ i. h i && k i

pub kept : {X : Type 0} (A B : X → Type 0) (xs : List X) → Each (λ x. A x → B x) xs → Each A xs → Each B xs
kept A B [] k h = tt
kept A B (x ∷ xs) k h = (k.0 h.0, kept A B xs k.1 h.1)
