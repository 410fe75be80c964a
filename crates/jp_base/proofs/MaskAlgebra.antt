-- Unions of masks, and what lies within them. std has that a union is commutative, idempotent and has the empty set as its unit.
use Rattle.std.proofs.Common.{◌≡◌, ℕ, inl, inr, List, [], ◌∷◌, fold, arith}
use Rattle.std.specs.Prelude.{bit_or}
use Rattle.std.proofs.lemmas.Nat.Bits.{bit_at-zero}
use Rattle.jp_base.specs.Sets.{Has, Within}
use Rattle.jp_base.proofs.SetLemmas.{has_or, same_set}

-- nothing is a member of the empty set
pub has_none : (i : ℕ) → ¬ Has 0 i
has_none i h = omega (arith, bit_at-zero i, h)

pub in_left : (a b : ℕ) → Within a (bit_or a b)
in_left a b i p = (has_or a b i).1 (inl p)

pub in_right : (a b : ℕ) → Within b (bit_or a b)
in_right a b i p = (has_or a b i).1 (inr p)

pub left_within : (a b set : ℕ) → Within (bit_or a b) set → Within a set
left_within a b set w i p = w i (in_left a b i p)

pub right_within : (a b set : ℕ) → Within (bit_or a b) set → Within b set
right_within a b set w i p = w i (in_right a b i p)

pub both_within : (a b set : ℕ) → Within a set → Within b set → Within (bit_or a b) set
both_within a b set v w i p = elim ((has_or a b i).0 p) [ inl q ↦ v i q | inr q ↦ w i q ]

-- two sets that lie within each other are one
pub same_within : (a b : ℕ) → Within a b → Within b a → a ≡ b
same_within a b v w = same_set a b (λ i. (v i, w i))

-- a member of the union that the right set lacks
pub left_only : (a b i : ℕ) → Has (bit_or a b) i → ¬ Has b i → Has a i
left_only a b i h n = elim ((has_or a b i).0 h) [ inl p ↦ p | inr q ↦ absurd (n q) ]

pub or_assoc : (a b c : ℕ) → bit_or (bit_or a b) c ≡ bit_or a (bit_or b c)
or_assoc a b c =
    same_within (bit_or (bit_or a b) c) (bit_or a (bit_or b c))
    (both_within (bit_or a b) c (bit_or a (bit_or b c)) (both_within a b (bit_or a (bit_or b c)) (in_left a (bit_or b c)) (λ i p. in_right a (bit_or b c) i (in_left b c i p))) (λ i p. in_right a (bit_or b c) i (in_right b c i p)))
    (both_within a (bit_or b c) (bit_or (bit_or a b) c) (λ i p. in_left (bit_or a b) c i (in_left a b i p)) (both_within b c (bit_or (bit_or a b) c) (λ i p. in_left (bit_or a b) c i (in_right a b i p)) (in_right (bit_or a b) c)))

swapped_within : (a b c : ℕ) → Within (bit_or a (bit_or b c)) (bit_or b (bit_or a c))
swapped_within a b c =
    both_within a (bit_or b c) (bit_or b (bit_or a c)) (λ i p. in_right b (bit_or a c) i (in_left a c i p))
    (both_within b c (bit_or b (bit_or a c)) (in_left b (bit_or a c)) (λ i p. in_right b (bit_or a c) i (in_right a c i p)))

pub or_swap : (a b c : ℕ) → bit_or a (bit_or b c) ≡ bit_or b (bit_or a c)
or_swap a b c = same_within (bit_or a (bit_or b c)) (bit_or b (bit_or a c)) (swapped_within a b c) (swapped_within b a c)

-- ---- unions of lists of sets, from a start

abbrev pub EachWithin : ℕ → List ℕ → Type 0
EachWithin set [] = Unit {0}
EachWithin set (x ∷ xs) = Within x set × EachWithin set xs

pub fold_within : (set start : ℕ) (xs : List ℕ) → Within (fold bit_or start xs) set → Within start set × EachWithin set xs
fold_within set start [] w = (w, tt)
fold_within set start (x ∷ xs) w = let h = fold_within set (bit_or start x) xs w in (left_within start x set h.0, (right_within start x set h.0, h.1))

pub within_fold : (set start : ℕ) (xs : List ℕ) → Within start set → EachWithin set xs → Within (fold bit_or start xs) set
within_fold set start [] w each = w
within_fold set start (x ∷ xs) w each = within_fold set (bit_or start x) xs (both_within start x set w each.0) each.1
