-- The mask of a set of one number.
use Rattle.std.proofs.Common.{◌≡◌, ℕ, arith, inl, inr, sym, subst}
use Rattle.std.proofs.lemmas.Bool.{cases_eq}
use Rattle.std.proofs.lemmas.Nat.Bits.{bit_at-pow_same, bit_at-pow_other}
use Rattle.jp_base.specs.Sets.{Has, IsOnly}
use Rattle.jp_base.proofs.SetLemmas.{same_set}
use Rattle.jp_query.specs.Refs.{only}

pub has_only : (i k : ℕ) → Has (only i) k → k ≡ i
has_only i k h = elim (cases_eq k i) [ inl e ↦ e | inr n ↦ absurd (omega (arith, bit_at-pow_other i k n, h)) ]

pub only_is : (i r : ℕ) → IsOnly i r → r ≡ only i
only_is i r o = same_set r (only i) (λ k. (λ h. subst (λ j. Has (only i) j) (sym ((o k).0 h)) (bit_at-pow_same i), λ h. (o k).1 (has_only i k h)))
