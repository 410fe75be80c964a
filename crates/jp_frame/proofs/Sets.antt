-- Decisions on sets of numbers, and their least members.
use Rattle.std.proofs.Common.{ℕ, zero, suc, ◌^◌, ◌<◌, ◌⊎◌, inl, inr, sym, subst, arith}
use Rattle.std.specs.Int.{bit_at}
use Rattle.std.specs.Prelude.{bit_and}
use Rattle.std.proofs.lemmas.Bool.{cases_eq, cases_lt}
use Rattle.std.proofs.lemmas.Nat.Bits.{bit_at_above}
use Rattle.jp_base.specs.Sets.{Has, Within, Meets, IsLeastMember}
use Rattle.jp_base.proofs.SetLemmas.{within_and, within_le}
use Rattle.jp_frame.specs.Frames.{Apart}

abbrev pub Decision : Type 0 → Type 0
Decision P = P ⊎ ¬ P

pub decide_has : (a i : ℕ) → Decision (Has a i)
decide_has a i = cases_eq (bit_at a i) 1

below_power : (n : ℕ) → n < 2 ^ n
below_power zero = omega arith
below_power (suc n) = let h = below_power n in omega (arith, h)

-- a member is below the mask itself
pub member_below : (a i : ℕ) → Has a i → i < a
member_below a i h = elim (cases_lt i a) [ inl p ↦ p | inr q ↦ absurd (omega (arith, bit_at_above a a i (below_power a) q, h)) ]

-- the least number below a bound with a decided property, if there is one
pub data Search (P : ℕ → Type 0) (n : ℕ) : Type 0 where
  found : (i : ℕ) → i < n → P i → ((k : ℕ) → k < i → ¬ P k) → Search P n
  none : ((k : ℕ) → k < n → ¬ P k) → Search P n

pub search_below : (P : ℕ → Type 0) → ((i : ℕ) → Decision (P i)) → (n : ℕ) → Search P n
search_below P decide zero = none (λ k low. absurd (omega arith))
search_below P decide (suc n) = go (search_below P decide n) (decide n)
  where
    go : Search P n → Decision (P n) → Search P (suc n)
    go (found i low here least) d = found i (omega arith) here least
    go (none fails) (inl here) = found n (omega arith) here fails
    go (none fails) (inr not_here) = none (λ k low p. elim (cases_eq k n) [ inl e ↦ not_here (subst P e p) | inr n ↦ fails k (omega (arith, low, n)) p ])

pub least_of : (a : ℕ) → (i : ℕ) × Has a i → (i : ℕ) × IsLeastMember a i
least_of a some = go (search_below (Has a) (decide_has a) a)
  where
    go : Search (Has a) a → (i : ℕ) × IsLeastMember a i
    go (found i low here least) = (i, record { member = here; least = least })
    go (none fails) = absurd (fails some.0 (member_below a some.0 some.1) some.1)

pub cases_meets : (a b : ℕ) → Meets a b ⊎ Apart a b
cases_meets a b = go (search_below (λ i. Has a i × Has b i) decide a)
  where
    decide : (i : ℕ) → Decision (Has a i × Has b i)
    decide i = elim (decide_has a i) [ inl p ↦ elim (decide_has b i) [ inl q ↦ inl (p, q) | inr n ↦ inr (λ h. n h.1) ] | inr n ↦ inr (λ h. n h.0) ]

    go : Search (λ i. Has a i × Has b i) a → Meets a b ⊎ Apart a b
    go (found i low here least) = inl (i, here.0, here.1)
    go (none fails) = inr (λ i p q. fails i (member_below a i p) (p, q))

pub decide_within : (a b : ℕ) → Decision (Within a b)
decide_within a b = elim (cases_eq (bit_and a b) a) [ inl e ↦ inl ((within_and a b).0 e) | inr n ↦ inr (λ w. n ((within_and a b).1 w)) ]

-- a proper part is a smaller number
pub within_lt : (a b i : ℕ) → Within a b → Has b i → ¬ Has a i → a < b
within_lt a b i w in_b out_a = let le = within_le a b w in elim (cases_eq a b) [ inl e ↦ absurd (out_a (subst (λ n. Has n i) (sym e) in_b)) | inr n ↦ omega (arith, le, n) ]
