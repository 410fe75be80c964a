-- Where some relation of a set is present.
use Rattle.std.proofs.Common.{◌≡◌, ◌∙◌, sym, subst, ap, ℕ, zero, suc, ◌+◌, ◌<◌, inl, inr, Bool, true, arith}
use Rattle.std.specs.List.{list_any, range_with_len}
use Rattle.std.specs.Prelude.{is_some}
use Rattle.std.proofs.lemmas.Bool.{or_cases, and_parts, and_from, eqb-true, eq-eqb, false≢true}
use Rattle.std.proofs.lemmas.List.Folds.{list_any_at}
use Rattle.std.proofs.lemmas.List.FromFn.{length-range_with_len, get_or-range_with_len}
use Rattle.std.specs.Int.{bit_at}
use Rattle.jp_base.specs.Sets.{Has}
use Rattle.jp_query.specs.Meaning.{Env, is_present, any_present}

-- a test that some number of a range passes
found : (p : ℕ → Bool) (a n : ℕ) → list_any p (range_with_len a n) ≡ true → (i : ℕ) × (i < a + n) × (p i ≡ true)
found p a zero h = absurd (false≢true h)
found p a (suc n) h = elim (or_cases (p a) (list_any p (range_with_len (a + 1) n)) h) [
  | inl here ↦ (a, omega arith, here)
  | inr later ↦ (let rest = found p (a + 1) n later in (rest.0, omega (arith, rest.1), rest.2))
]

passes : (p : ℕ → Bool) (n i : ℕ) → i < n → p i ≡ true → list_any p (range_with_len 0 n) ≡ true
passes p n i below h =
    list_any_at p (range_with_len 0 n) i 0 (subst (λ k. i < k) (sym (length-range_with_len 0 n)) below) (ap p (get_or-range_with_len 0 n i 0 below ∙ zero_more i) ∙ h)
  where
    zero_more : (k : ℕ) → 0 + k ≡ k
    zero_more k = omega arith

pub some_present : (rels : ℕ) (env : Env) → any_present rels env ≡ true → (i : ℕ) × (i < 64) × Has rels i × (is_some (env i) ≡ true)
unfolding any_present
some_present rels env h =
    let it = found (is_present rels env) 0 64 h in
    let both = and_parts _ _ it.2 in
    (it.0, omega (arith, it.1), eqb-true (bit_at rels it.0) 1 both.0, both.1)

pub present_some : (rels : ℕ) (env : Env) (i : ℕ) → i < 64 → Has rels i → is_some (env i) ≡ true → any_present rels env ≡ true
unfolding any_present
present_some rels env i below member there = passes (is_present rels env) 64 i below (and_from _ _ (eq-eqb (bit_at rels i) 1 member) there)
