-- Lists of conditions that reject nulls, and what is present where a list holds.
use Rattle.std.proofs.Common.{◌≡◌, ◌∙◌, sym, subst, refl, ℕ, ◌<◌, ◌⊎◌, inl, inr, Bool, true, false, List, [], ◌∷◌, map, fold, Option, Some, None, arith}
use Rattle.std.specs.Prelude.{bit_or, is_some, if◌then◌else◌}
use Rattle.std.specs.List.{range_with_len}
use Rattle.std.proofs.lemmas.Bool.{true≢false, and_left, and_right, cases_eq}
use Rattle.std.proofs.lemmas.Nat.Bits.{bit_at-zero, bit_at-pow_other, bit_at-pow_same}
use Rattle.jp_base.specs.Sets.{Has}
use Rattle.jp_base.specs.declared.values.Ty.TheVariants as ty
use Rattle.jp_base.proofs.SetLemmas.{has_or}
use Rattle.jp_base.proofs.MaskAlgebra.{has_none}
use Rattle.jp_query.specs.declared.Expr.{Expr}
use Rattle.jp_query.specs.Meaning.{Row, Env, SublinkRows, holds, is_true_at}
use Rattle.jp_query.specs.Nullness.{Gone, is_rejecting, rejects, rejects_relation, rejected, nonnull_items}
use Rattle.jp_query.specs.Refs.{only}
use Rattle.jp_query.specs.Typing.{is_of, are_conditions, type_of}
use Rattle.jp_strict.specs.Absence.{IsGoneIn}
use Rattle.jp_strict.proofs.SharedSets.{in_range, only_range}
use Rattle.jp_strict.proofs.SoundTests.{val_of, tests_sound, either, left_of, right_of, of_typed, never}

module _ (gone : Gone) (env : Env) (is_so : IsGoneIn gone env) (subs : SublinkRows) (tables : ℕ → List Row) where
  pub not_held : (conds : List Expr) → are_conditions (map type_of conds) ≡ true → rejects gone conds ≡ true → holds (map (val_of subs tables) conds) env ≡ false
  not_held [] typed h = never h
  not_held (e ∷ es) typed h = either (is_rejecting gone e) (rejects gone es) (holds (map (val_of subs tables) (e ∷ es)) env ≡ false)
      (λ p. and_left (is_true_at env (val_of subs tables e)) (holds (map (val_of subs tables) es) env)
      ((tests_sound gone env is_so subs tables e (of_typed ty.Boolean (type_of e) (left_of (is_of ty.Boolean (type_of e)) (are_conditions (map type_of es)) typed))).not_true p))
      (λ p. and_right (is_true_at env (val_of subs tables e)) (holds (map (val_of subs tables) es) env)
      (not_held es (right_of (is_of ty.Boolean (type_of e)) (are_conditions (map type_of es)) typed) p))
      h

-- ---- the numbers whose nulls a list rejects

has_only : (i j : ℕ) → Has (only i) j → j ≡ i
has_only i j h = elim (cases_eq j i) [ inl e ↦ e | inr n ↦ absurd (omega (arith, bit_at-pow_other i j n, h)) ]

one_rejected : (conds : List Expr) (rel i : ℕ) → Has (rejected conds rel) i → rejects_relation conds i ≡ true
one_rejected conds rel i h = by (rejects_relation conds rel) refl h
  where
    by : (b : Bool) → rejects_relation conds rel ≡ b → Has (if b then only rel else 0) i → rejects_relation conds i ≡ true
    by true e p = subst (λ j. rejects_relation conds j ≡ true) (sym (has_only rel i p)) e
    by false e p = absurd (omega (arith, bit_at-zero i, p))

rejected_only : (conds : List Expr) (rel i : ℕ) → Has (rejected conds rel) i → i ≡ rel
rejected_only conds rel i h = by (rejects_relation conds rel) h
  where
    by : (b : Bool) → Has (if b then only rel else 0) i → i ≡ rel
    by true p = has_only rel i p
    by false p = absurd (has_none i p)

some_rejected : (conds : List Expr) (set : ℕ) (rels : List ℕ) (i : ℕ) → Has (fold bit_or set (map (rejected conds) rels)) i → Has set i ⊎ (rejects_relation conds i ≡ true)
some_rejected conds set [] i h = inl h
some_rejected conds set (rel ∷ rels) i h = elim (some_rejected conds (bit_or set (rejected conds rel)) rels i h) [
  | inl p ↦ (elim ((has_or set (rejected conds rel) i).0 p) [ inl q ↦ inl q | inr q ↦ inr (one_rejected conds rel i q) ])
  | inr q ↦ inr q
]

pub nonnull_rejected : (conds : List Expr) (i : ℕ) → Has (nonnull_items conds) i → rejects_relation conds i ≡ true
unfolding nonnull_items
nonnull_rejected conds i h = elim (some_rejected conds 0 (range_with_len 0 64) i h) [
  | inl p ↦ absurd (omega (arith, bit_at-zero i, p))
  | inr q ↦ q
]

pub rejected_nonnull : (conds : List Expr) (i : ℕ) → i < 64 → rejects_relation conds i ≡ true → Has (nonnull_items conds) i
unfolding nonnull_items
rejected_nonnull conds i low h = in_range (rejected conds) 64 0 0 i (omega arith) (omega (arith, low)) (subst (λ b. Has (if b then only i else 0) i) (sym h) (bit_at-pow_same i))

pub nonnull_low : (conds : List Expr) (i : ℕ) → Has (nonnull_items conds) i → i < 64
unfolding nonnull_items
nonnull_low conds i h = only_range (rejected conds) (λ k j p. rejected_only conds k j p) 64 0 0 i (λ p. absurd (has_none i p)) h

module _ (subs : SublinkRows) (tables : ℕ → List Row) (env : Env) (conds : List Expr) where
  pub held_present : are_conditions (map type_of conds) ≡ true → holds (map (val_of subs tables) conds) env ≡ true → (i : ℕ) → Has (nonnull_items conds) i → is_some (env i) ≡ true
  held_present typed held i h = by (env i) refl
    where
      by : (o : Option Row) → env i ≡ o → is_some o ≡ true
      by (Some row) e = refl
      by None e = absurd (true≢false (sym held ∙ not_held (Gone.relations (only i)) env (λ j p. subst (λ k. env k ≡ None) (sym (has_only i j p)) e) subs tables conds typed (nonnull_rejected conds i h)))
