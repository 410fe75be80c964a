-- A list read one element after the other.
use Rattle.std.proofs.Common.{◌≡◌, ◌∙◌, ap, ℕ, ◌+◌, zero, suc, List, [], ◌∷◌, ◌++◌, map, take, Some, arith}
use Rattle.std.specs.List.{slice_get}

taken : {A B : Type 0} (f : A → B) (xs : List A) (i : ℕ) (x : A) → slice_get xs i ≡ Some x → map f (take (suc i) xs) ≡ map f (take i xs) ++ f x ∷ []
taken f [] i x h = cc
taken f (y ∷ ys) zero x h = ap (λ z. f z ∷ []) cc
taken f (y ∷ ys) (suc i) x h = ap (λ zs. f y ∷ zs) (taken f ys i x h)

pub mapped_more : {A B : Type 0} (f : A → B) (xs : List A) (i n : ℕ) (x : A) → n ≡ i + 1 → slice_get xs i ≡ Some x → map f (take n xs) ≡ map f (take i xs) ++ f x ∷ []
mapped_more f xs i n x e h = let e' : n ≡ suc i = omega arith in ap (λ k. map f (take k xs)) e' ∙ taken f xs i x h
