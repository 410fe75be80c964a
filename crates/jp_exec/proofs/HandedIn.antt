-- A block sees the same at a tuple and in what it is handed of the tuple.
use Rattle.std.proofs.Common.{◌≡◌, ◌∙◌, ap, sym, subst, refl, ℕ, ◌<◌, ◌≤◌, ◌⊎◌, inl, inr, Bool, true, false, List, Option, Some, None, is_some, eq-eqb, arith}
use Rattle.std.specs.Prelude.{IsSome, nat_lt}
use Rattle.std.specs.Int.{bit_at}
use Rattle.std.proofs.lemmas.Bool.{cases_eq, ltb-false, ltb-true, ne_eqb}
use Rattle.jp_base.specs.Sets.{Has}
use Rattle.jp_facts.proofs.Members.{In, to_in}
use Rattle.jp_query.specs.Meaning.{Env, Row, cell_in}
use Rattle.jp_query.specs.Parts.{ColumnRef}
use Rattle.jp_query.specs.Fitting.{IsCellOfSome}
use Rattle.jp_query.specs.Scopes.{visible_column}
use Rattle.jp_induction.proofs.EachPart.{each_of}
use Rattle.jp_laws.specs.SameCells.{IsSameCell}
use Rattle.jp_tree.specs.declared.prepared.Block.{Block}
use Rattle.jp_tree.specs.declared.prepared.Prepared.{Prepared}
use Rattle.jp_tree.specs.BlockParts.{columns_named, IsBlockAt, Uses, IsOuterReference}
use Rattle.jp_tree.specs.BlockParts as parts
use Rattle.jp_tree.specs.Prepared.{IsWhole}
use Rattle.jp_lists.specs.Seen.{AreSeenAlike, FitsOutside}
use Rattle.jp_lists.proofs.Arounds.{from_each}
use Rattle.jp_items.specs.Params.{env_of_params}
use Rattle.jp_items.specs.declared.params.Params.{Params}
use Rattle.jp_items.proofs.ParamFacts.{absent, there}
use Rattle.jp_items.proofs.SightFacts.{around_has}
use Rattle.jp_exec.specs.Cells.{IsGivenCell, IsHandedIn}
use Rattle.jp_outputs.specs.Columns.{column_place, places_from}
use Rattle.jp_outputs.proofs.PlaceLaws.{column_listed}

-- ---- the blocks behind

module _ (prepared : Prepared) (whole : IsWhole prepared) where
  pub used_behind : (number inner : ℕ) (block : Block) → IsBlockAt prepared number block → Uses prepared block inner → number < inner
  used_behind number inner block is (parts.by_item h) = (whole.behind number inner block is h).0
  used_behind number inner block is (parts.by_sublink o h sub) =
      let one = whole.sublinks number block o is h in
      subst (λ k. number < k) (sym (one.only inner sub)) one.behind

  named_behind : (first number : ℕ) (c : ColumnRef) → first ≤ number → IsOuterReference prepared number c → In (column_place c) (places_from prepared first)
  named_behind first number c low (parts.named block is h out) = column_listed prepared first number block c low is (to_in c (columns_named block) h)
  named_behind first number c low (parts.passed_on block inner is uses more out) =
      let further = used_behind number inner block is uses in
      named_behind first inner c (omega (arith, low, further)) more

-- ---- the same cells

module _ (columns : List (ℕ × ℕ)) (env : Env) (beyond : (rel : ℕ) → 64 ≤ rel → env rel ≡ None) (params : Params) (given : IsHandedIn columns env params) where
  abbrev handed : Env
  handed = env_of_params params

  none_of : (o : Option Row) → ¬ IsSome o → o ≡ None
  none_of None n = refl
  none_of (Some row) n = absurd (n refl)

  in_or_beyond : (rel : ℕ) → (rel < 64) ⊎ (64 ≤ rel)
  in_or_beyond rel = by_test (nat_lt rel 64) refl
    where
      by_test : (b : Bool) → nat_lt rel 64 ≡ b → (rel < 64) ⊎ (64 ≤ rel)
      by_test true is = inl (ltb-true rel 64 is)
      by_test false is = inr (ltb-false rel 64 is)

  row_gone : (rel : ℕ) → ¬ Has params.present rel → env rel ≡ None
  row_gone rel n = elim (in_or_beyond rel) [
    | inl low ↦ none_of (env rel) (λ some. n ((given.present rel low).1 some))
    | inr high ↦ beyond rel high
  ]

  cell_same : (rel col : ℕ) → IsGivenCell env params.cells (rel, col) → cell_in (env rel) col ≡ cell_in (handed rel) col
  cell_same rel col h = elim (cases_eq (bit_at params.present rel) 1) [
    | inl p ↦ there params.cells params.present rel col (cell_in (env rel) col) h.1 (eq-eqb (bit_at params.present rel) 1 p) (sym h.0)
    | inr n ↦ ap (λ row. cell_in row col) (row_gone rel n) ∙ absent params.cells params.present rel col (ne_eqb (bit_at params.present rel) 1 n)
  ]

  presence_same : (rel : ℕ) → rel < 64 → is_some (env rel) ≡ is_some (handed rel)
  presence_same rel low = elim (cases_eq (bit_at params.present rel) 1) [
    | inl p ↦ (given.present rel low).0 p ∙ sym (eq-eqb (bit_at params.present rel) 1 p) ∙ around_has params.cells params.present rel
    | inr n ↦ ap is_some (row_gone rel n) ∙ sym (ne_eqb (bit_at params.present rel) 1 n) ∙ around_has params.cells params.present rel
  ]

-- ---- a block that is handed its columns

module _ (prepared : Prepared) (whole : IsWhole prepared) (number : ℕ) (env : Env) (beyond : (rel : ℕ) → 64 ≤ rel → env rel ≡ None) (params : Params)
    (given : IsHandedIn (places_from prepared number) env params) where
  reference_same : (c : ColumnRef) → IsOuterReference prepared number c → IsSameCell env (env_of_params params) c
  reference_same c h =
      let all = each_of (IsGivenCell env params.cells) (places_from prepared number) given.cells in
      let named = named_behind prepared whole number number c (omega arith) h in
      cell_same (places_from prepared number) env beyond params given c.relation c.column (from_each (IsGivenCell env params.cells) (column_place c) (places_from prepared number) all named)

  pub seen_alike : AreSeenAlike prepared number env (env_of_params params)
  seen_alike = record {
    cells = reference_same;
    presence = λ rel low asked. presence_same (places_from prepared number) env beyond params given rel low;
  }

  pub fits_handed : FitsOutside prepared whole.scope number env → FitsOutside prepared whole.scope number (env_of_params params)
  fits_handed fits c h = subst (IsCellOfSome (visible_column whole.scope c.relation c.column)) (reference_same c h) (fits c h)
