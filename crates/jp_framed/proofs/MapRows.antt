-- The rows of relations in the environment of a map.
use Rattle.std.proofs.Common.{◌≡◌, ◌∙◌, ap, sym, subst, refl, ℕ, zero, suc, ◌+◌, ◌⊎◌, inl, inr, List, [], ◌∷◌, Some, eq-eqb, arith}
use Rattle.std.specs.Prelude.{slice_get, if◌then◌else◌}
use Rattle.std.specs.Int.{bit_at}
use Rattle.std.proofs.lemmas.Bool.{cases_eq, ne_eqb}
use Rattle.jp_base.specs.Sets.{Has}
use Rattle.jp_base.proofs.SetLemmas.{has_or}
use Rattle.jp_base.proofs.MaskAlgebra.{has_none}
use Rattle.jp_query.specs.Meaning.{Env, has, with_rows}
use Rattle.jp_problem.specs.Blocks.{rels_from, rels_at, items_with}
use Rattle.jp_problem.specs.Conditions.{IsAbsent}
use Rattle.jp_problem.specs.Sets.{set_if}
use Rattle.jp_conditions.proofs.Items.{items_have}
use Rattle.jp_frame.specs.Maps.{Map, at, Agree, NoneOn}
use Rattle.jp_framed.specs.Environments.{Setting, source_at, row_at, env_from, env_of}
use Rattle.jp_framed.specs.Framing.{AreApart}

pub overlaid : (r : ℕ) (x u : Env) (i : ℕ) → Has r i → with_rows r x u i ≡ u i
overlaid r x u i p = ap (λ b. if b then u i else x i) (eq-eqb (bit_at r i) 1 p)

pub left_alone : (r : ℕ) (x u : Env) (i : ℕ) → ¬ Has r i → with_rows r x u i ≡ x i
left_alone r x u i n = ap (λ b. if b then u i else x i) (ne_eqb (bit_at r i) 1 n)

same_some : {X : Type 0} (a b : X) → Some a ≡ Some b → a ≡ b
same_some a b e = cc

module _ (sources : List (List Env)) (outer : Env) (m : Map) where
  own_from : (first : ℕ) (rels : List ℕ) (k set rel : ℕ) → slice_get rels k ≡ Some set → Has set rel → ((j q : ℕ) → slice_get rels j ≡ Some q → Has q rel → j ≡ k)
      → env_from first rels sources outer m rel ≡ row_at (source_at sources (first + k)) (at m (first + k)) rel
  own_from first [] k set rel e h one = cc
  own_from first (r ∷ rels) zero set rel e h one =
      overlaid r (env_from (suc first) rels sources outer m) (row_at (source_at sources first) (at m first)) rel (subst (λ n. Has n rel) (sym (same_some r set e)) h)
      ∙ ap (λ n. row_at (source_at sources n) (at m n) rel) (omega arith)
  own_from first (r ∷ rels) (suc k) set rel e h one =
      left_alone r (env_from (suc first) rels sources outer m) (row_at (source_at sources first) (at m first)) rel (λ p. let clash = one 0 r refl p in omega (arith, clash))
      ∙ own_from (suc first) rels k set rel e h (λ j q f p. let same = one (suc j) q f p in omega (arith, same))
      ∙ ap (λ n. row_at (source_at sources n) (at m n) rel) (omega arith)

  others_from : (first : ℕ) (rels : List ℕ) (rel : ℕ) → ((k set : ℕ) → slice_get rels k ≡ Some set → ¬ Has set rel) → env_from first rels sources outer m rel ≡ outer rel
  others_from first [] rel none = refl
  others_from first (r ∷ rels) rel none =
      left_alone r (env_from (suc first) rels sources outer m) (row_at (source_at sources first) (at m first)) rel (none 0 r refl)
      ∙ others_from (suc first) rels rel (λ k set e. none (suc k) set e)

-- two maps that have one row at each item with the relation give it one row
same_from : (sources : List (List Env)) (outer : Env) (m n : Map) (first : ℕ) (rels : List ℕ) (rel : ℕ) → ((k set : ℕ) → slice_get rels k ≡ Some set → Has set rel → at m (first + k) ≡ at n (first + k))
    → env_from first rels sources outer m rel ≡ env_from first rels sources outer n rel
same_from sources outer m n first [] rel same = refl
same_from sources outer m n first (r ∷ rels) rel same = elim (cases_eq (bit_at r rel) 1) [
  | inl p ↦ (let here : at m first ≡ at n first = ap (at m) (omega arith) ∙ same 0 r refl p ∙ ap (at n) (omega arith) in
      overlaid r (env_from (suc first) rels sources outer m) (row_at (source_at sources first) (at m first)) rel p
      ∙ ap (λ place. row_at (source_at sources first) place rel) here
      ∙ sym (overlaid r (env_from (suc first) rels sources outer n) (row_at (source_at sources first) (at n first)) rel p))
  | inr d ↦ left_alone r (env_from (suc first) rels sources outer m) (row_at (source_at sources first) (at m first)) rel d
      ∙ same_from sources outer m n (suc first) rels rel (λ k set e h. ap (at m) (omega arith) ∙ same (suc k) set e h ∙ ap (at n) (omega arith))
      ∙ sym (left_alone r (env_from (suc first) rels sources outer n) (row_at (source_at sources first) (at n first)) rel d)
]

-- a relation of the set's items belongs to one of them
pub from_rels : (first : ℕ) (rels : List ℕ) (set rel : ℕ) → Has (rels_from first rels set) rel → (k : ℕ) × (r : ℕ) × (slice_get rels k ≡ Some r) × Has set (first + k) × Has r rel
from_rels first [] set rel h = absurd (has_none rel h)
from_rels first (r ∷ rels) set rel h = elim ((has_or (set_if (has set first) r) (rels_from (suc first) rels set) rel).0 h) [
  | inl p ↦ here (cases_eq (bit_at set first) 1) p
  | inr p ↦ (let q = from_rels (suc first) rels set rel p in (suc q.0, q.1, q.2, subst (Has set) (omega arith) q.3, q.4))
]
  where
    here : (Has set first) ⊎ (¬ Has set first) → Has (set_if (has set first) r) rel → (k : ℕ) × (q : ℕ) × (slice_get (r ∷ rels) k ≡ Some q) × Has set (first + k) × Has q rel
    here (inl p) h = (0, r, refl, subst (Has set) (omega arith) p, subst (λ b. Has (set_if b r) rel) (eq-eqb (bit_at set first) 1 p) h)
    here (inr d) h = absurd (has_none rel (subst (λ b. Has (set_if b r) rel) (ne_eqb (bit_at set first) 1 d) h))

module _ (rels : List ℕ) (setting : Setting) where
  pub own_row : (m : Map) (i set rel : ℕ) → AreApart rels → slice_get rels i ≡ Some set → Has set rel → env_of rels setting m rel ≡ row_at (source_at setting.sources i) (at m i) rel
  own_row m i set rel apart e h =
      own_from setting.sources setting.outer m 0 rels i set rel e h (λ j q f p. apart j i q set rel f e p h)
      ∙ ap (λ n. row_at (source_at setting.sources n) (at m n) rel) (omega arith)

  pub other_row : (m : Map) (rel : ℕ) → ((i set : ℕ) → slice_get rels i ≡ Some set → ¬ Has set rel) → env_of rels setting m rel ≡ setting.outer rel
  other_row m rel none = others_from setting.sources setting.outer m 0 rels rel none

  -- maps that agree on the items with a relation of the set give the set one environment
  pub agreeing : (refs : ℕ) (m n : Map) → Agree (items_with rels refs) m n → (rel : ℕ) → Has refs rel → env_of rels setting m rel ≡ env_of rels setting n rel
  agreeing refs m n agree rel h = same_from setting.sources setting.outer m n 0 rels rel (λ k set e p. ap (at m) (omega arith) ∙ agree k (items_have rels refs k (set, e, (rel, p, h))) ∙ ap (at n) (omega arith))

  -- a map that is none on a set of items leaves their relations without rows
  pub absent_rows : (set : ℕ) (m : Map) → AreApart rels → NoneOn set m → IsAbsent (rels_at rels set) (env_of rels setting m)
  absent_rows set m apart none rel h =
      let found = from_rels 0 rels set rel h in
      own_row m found.0 found.1 rel apart found.2 found.4
      ∙ ap (λ place. row_at (source_at setting.sources found.0) place rel) (none found.0 (subst (Has set) (omega arith) found.3))
