-- A walk by `next_part` meets each subset once: of the subsets from p on down each is met once, and none above p is.
use Rattle.std.proofs.Common.{◌≡◌, ℕ, ◌+◌, ◌<◌, ◌≤◌, inl, inr, ◌∙◌, ap, arith, nat_eq, eq-eqb, cond, zero-add, List, [], ◌∷◌}
use Rattle.std.specs.Prelude.{count_by}
use Rattle.std.proofs.lemmas.List.Sums.{sum_by-cons}
use Rattle.std.proofs.lemmas.Bool.{cases_eq, ne_eqb}
use Rattle.jp_base.specs.Sets.{Within, IsWalk, ends, goes_on}

pub record MeetsOnce (p q : ℕ) (parts : List ℕ) : Type 0 where
  pub once : q ≤ p → count_by (nat_eq q) parts ≡ 1
  pub never : p < q → count_by (nat_eq q) parts ≡ 0

-- a count goes over the first of a list
counted : (q p : ℕ) (rest : List ℕ) → q ≡ p → count_by (nat_eq q) (p ∷ rest) ≡ 1 + count_by (nat_eq q) rest
counted q p rest e = sum_by-cons (λ x. cond (nat_eq q x) 1 0) p rest ∙ ap (λ b. cond b 1 0 + count_by (nat_eq q) rest) (eq-eqb q p e)

skipped : (q p : ℕ) (rest : List ℕ) → (q ≡ p → ⊥) → count_by (nat_eq q) (p ∷ rest) ≡ count_by (nat_eq q) rest
skipped q p rest n = sum_by-cons (λ x. cond (nat_eq q x) 1 0) p rest ∙ ap (λ b. cond b 1 0 + count_by (nat_eq q) rest) (ne_eqb q p n) ∙ zero-add (count_by (nat_eq q) rest)

pub walk_meets : (set p : ℕ) (parts : List ℕ) → IsWalk set p parts → (q : ℕ) → Within q set → MeetsOnce p q parts
walk_meets set p parts ends q within = record { once = λ le. counted q 0 [] (omega (arith, le)); never = λ lt. skipped q 0 [] (λ e. omega (arith, lt, e)) }
walk_meets set p parts (goes_on {part = part} {parts = rest} positive greatest walk) q within =
    let further = walk_meets set part rest walk q within in
    let lower = λ (lt : q < p). skipped q p rest (λ e. omega (arith, lt, e)) in
    record {
      once = λ le. elim (cases_eq q p) [
        | inl e ↦ counted q p rest e ∙ ap (λ n. 1 + n) (further.never (omega (arith, e, greatest.below)))
        | inr n ↦ let lt : q < p = omega (arith, le, n) in lower lt ∙ further.once (greatest.greatest q within lt)
      ];
      never = λ lt. skipped q p rest (λ e. omega (arith, lt, e)) ∙ further.never (omega (arith, lt, greatest.below));
    }
