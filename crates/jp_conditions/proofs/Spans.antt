-- Spans of numbers as masks, and masks that share no item.
use Rattle.std.proofs.Common.{◌≡◌, sym, subst, ℕ, zero, suc, ◌+◌, ◌<◌, ◌≤◌, ◌↔◌, inl, inr, arith}
use Rattle.std.specs.Prelude.{bit_or}
use Rattle.std.proofs.lemmas.Bool.{cases_eq, cases_lt}
use Rattle.std.proofs.lemmas.Nat.Bits.{bit_at-pow_same, bit_at-pow_other}
use Rattle.jp_base.specs.Sets.{Has, Within}
use Rattle.jp_base.proofs.SetLemmas.{has_or}
use Rattle.jp_base.proofs.MaskAlgebra.{has_none}
use Rattle.jp_query.specs.Refs.{only}
use Rattle.jp_problem.specs.Legal.{Apart}
use Rattle.jp_problem.specs.Sets.{span}

pub has_itself : (i : ℕ) → Has (only i) i
has_itself i = bit_at-pow_same i

pub has_only : (i k : ℕ) → Has (only i) k → k ≡ i
has_only i k h = elim (cases_eq k i) [ inl e ↦ e | inr n ↦ absurd (omega (arith, bit_at-pow_other i k n, h)) ]

module _ (first n i : ℕ) (rest : Has (span (suc first) n) i ↔ ((suc first ≤ i) × (i < suc first + n))) where
  to_bounds : Has (bit_or (only first) (span (suc first) n)) i → (first ≤ i) × (i < first + suc n)
  to_bounds h = elim ((has_or (only first) (span (suc first) n) i).0 h) [
    | inl p ↦ (let e = has_only first i p in (omega (arith, e), omega (arith, e)))
    | inr q ↦ (let r = rest.0 q in (omega (arith, r.0), omega (arith, r.1)))
  ]

  from_bounds : (first ≤ i) × (i < first + suc n) → Has (bit_or (only first) (span (suc first) n)) i
  from_bounds h = elim (cases_eq i first) [
    | inl e ↦ (has_or (only first) (span (suc first) n) i).1 (inl (subst (λ k. Has (only first) k) (sym e) (has_itself first)))
    | inr other ↦ (has_or (only first) (span (suc first) n) i).1 (inr (rest.1 (omega (arith, h.0, other), omega (arith, h.1))))
  ]

pub has_span : (first n i : ℕ) → Has (span first n) i ↔ ((first ≤ i) × (i < first + n))
has_span first zero i = (λ h. absurd (has_none i h), λ h. absurd (omega (arith, h.0, h.1)))
has_span first (suc n) i = (to_bounds first n i (has_span (suc first) n i), from_bounds first n i (has_span (suc first) n i))

-- a span is two spans, one behind the other
pub span_parts : (first m n i : ℕ) → Has (span first (m + n)) i ↔ Has (bit_or (span first m) (span (first + m) n)) i
span_parts first m n i = (to, from)
  where
    to : Has (span first (m + n)) i → Has (bit_or (span first m) (span (first + m) n)) i
    to h = let r = (has_span first (m + n) i).0 h in
        elim (cases_lt i (first + m)) [
          | inl low ↦ (has_or (span first m) (span (first + m) n) i).1 (inl ((has_span first m i).1 (r.0, low)))
          | inr high ↦ (has_or (span first m) (span (first + m) n) i).1 (inr ((has_span (first + m) n i).1 (high, omega (arith, r.1))))
        ]

    from : Has (bit_or (span first m) (span (first + m) n)) i → Has (span first (m + n)) i
    from h = elim ((has_or (span first m) (span (first + m) n) i).0 h) [
      | inl p ↦ (let r = (has_span first m i).0 p in (has_span first (m + n) i).1 (r.0, omega (arith, r.1)))
      | inr q ↦ (let r = (has_span (first + m) n i).0 q in (has_span first (m + n) i).1 (omega (arith, r.0), omega (arith, r.1)))
    ]

pub spans_apart : (first m n : ℕ) → Apart (span first m) (span (first + m) n)
spans_apart first m n h = let p = (has_span first m h.0).0 h.1 in let q = (has_span (first + m) n h.0).0 h.2 in omega (arith, p.1, q.0)

-- ---- sets that share no item

pub apart_within : (a b c d : ℕ) → Within a c → Within b d → Apart c d → Apart a b
apart_within a b c d p q apart h = apart (h.0, p h.0 h.1, q h.0 h.2)

pub apart_turned : (a b : ℕ) → Apart a b → Apart b a
apart_turned a b apart h = apart (h.0, h.2, h.1)

pub through : (a b c : ℕ) → Within a b → Within b c → Within a c
through a b c p q i h = q i (p i h)
