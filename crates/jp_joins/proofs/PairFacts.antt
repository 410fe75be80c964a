-- Two maps together, place by place.
use Rattle.std.proofs.Common.{◌≡◌, ap, sym, refl, ℕ, zero, suc, ◌+◌, ◌<◌, Option, [], ◌∷◌, ◌++◌, length, get_or, take, arith, add-one}
use Rattle.jp_frame.specs.Maps.{Map, both, either_row}

both_next : (a b : Map) (i : ℕ) (d e : Option ℕ) → i < length a → length a ≡ length b → both (take (suc i) a) (take (suc i) b) ≡ both (take i a) (take i b) ++ either_row (get_or a i d) (get_or b i e) ∷ []
both_next [] b i d e h w = absurd (omega (arith, h))
both_next (r ∷ a) [] i d e h w = absurd (omega (arith, w))
both_next (r ∷ a) (s ∷ b) zero d e h w = refl
both_next (r ∷ a) (s ∷ b) (suc i) d e h w = ap (λ m. either_row r s ∷ m) (both_next a b i d e (omega (arith, h)) (omega (arith, w)))

pub both_more : (a b : Map) (i : ℕ) (x y z : Option ℕ) → i < length a → length a ≡ length b → z ≡ either_row (get_or a i x) (get_or b i y) → both (take i a) (take i b) ++ z ∷ [] ≡ both (take (i + 1) a) (take (i + 1) b)
both_more a b i x y z h w is = rw (is, add-one) (sym (both_next a b i x y h w))
