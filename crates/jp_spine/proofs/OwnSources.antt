-- The tuples of each item's tree are rows that hold it.
use Rattle.std.proofs.Common.{◌≡◌, ◌∙◌, ap, ap₂, sym, subst, refl, ℕ, inl, inr, List, [], ◌∷◌, map, Some, eq-eqb}
use mathlib.Core.Path.{fun_ext}
use Rattle.std.specs.Prelude.{slice_get, if◌then◌else◌}
use Rattle.std.specs.Int.{bit_at}
use Rattle.std.specs.List.Sorted.{IsPermutation}
use Rattle.std.specs.Option.{option_map}
use Rattle.std.proofs.lemmas.Bool.{ne_eqb}
use Rattle.std.proofs.lemmas.List.Sorted.{IsPermutation-refl}
use Rattle.std.proofs.lemmas.Option.{slice_get-map, get_or_from_slice_get}
use Rattle.jp_base.specs.Sets.{Has}
use Rattle.jp_facts.proofs.Members.{In}
use Rattle.jp_query.specs.declared.JoinTree.{JoinTree}
use Rattle.jp_query.specs.declared.Query.{Query, out-Query}
use Rattle.jp_query.specs.Meaning.{Row, Env, with_rows, tuples_of}
use Rattle.jp_query.specs.Parts.{rels_of}
use Rattle.jp_query.proofs.RelsLaw.{rels_same}
use Rattle.jp_problem.specs.Blocks.{known_rels, item_rels}
use Rattle.jp_problem.specs.Made.{IsBlock}
use Rattle.jp_problem.specs.Shapes.{block_shape, items_in}
use Rattle.jp_conditions.proofs.LaidBlocks.{typed_parts}
use Rattle.jp_conditions.proofs.Numbers.{from_place}
use Rattle.jp_frame.proofs.Sets.{decide_has}
use Rattle.jp_framed.specs.Environments.{source_at}
use Rattle.jp_spine.specs.ItemTuples.{HoldItems, tuples_in}
use Rattle.jp_spine.specs.Written.{rels_of_number}
use Rattle.jp_spine.proofs.MeaningLaws.{low_known}
use Rattle.jp_spine.proofs.TreeTuples.{tree_out, tree_low, items_typed}

module _ (tables : ℕ → List Row) (query : Query) (outer : Env) (is_block : IsBlock query) where
  abbrev items : List JoinTree
  items = items_in (block_shape query)

  module _ (i : ℕ) (t : JoinTree) (here : slice_get (items_in (block_shape query)) i ≡ Some t) where
    abbrev xs : List Env
    xs = tuples_in tables outer t

    source_is : source_at (map (tuples_in tables outer) items) i ≡ tuples_in tables outer t
    source_is = get_or_from_slice_get (map (tuples_in tables outer) items) i (tuples_in tables outer t) [] (slice_get-map (tuples_in tables outer) items i ∙ ap (option_map (tuples_in tables outer)) here)

    rels_are : rels_of_number (item_rels (block_shape query)) i ≡ known_rels t
    rels_are = get_or_from_slice_get (map known_rels items) i (known_rels t) 0 (slice_get-map known_rels items i ∙ ap (option_map known_rels) here)

    unknown : (rel : ℕ) → ¬ Has (known_rels t) rel → ¬ Has (tuples_of tables t).rels rel
    unknown rel none h = none (low_known (rels_of t) rel (tree_low tables t (items_typed (out-Query query).tree (typed_parts query is_block).0 t (from_place items i t here)) rel h) (subst (λ n. Has n rel) (rels_same tables t) h))

    seen_same : (x : Env) → In x (tuples_in tables outer t) → with_rows (known_rels t) outer x ≡ x
    seen_same x h = fun_ext (λ rel. elim (decide_has (known_rels t) rel) [
      | inl p ↦ ap (λ b. if b then x rel else outer rel) (eq-eqb (bit_at (known_rels t) rel) 1 p)
      | inr n ↦ ap (λ b. if b then x rel else outer rel) (ne_eqb (bit_at (known_rels t) rel) 1 n) ∙ sym (tree_out tables outer t x h rel (unknown rel n))
    ])

    all_same : (ys : List Env) → ((y : Env) → In y ys → In y (tuples_in tables outer t)) → map (with_rows (known_rels t) outer) ys ≡ ys
    all_same [] k = refl
    all_same (y ∷ ys) k = ap₂ ◌∷◌ (seen_same y (k y (inl refl))) (all_same ys (λ z m. k z (inr m)))

    held : IsPermutation (map (with_rows (rels_of_number (item_rels (block_shape query)) i) outer) (source_at (map (tuples_in tables outer) items) i)) (tuples_in tables outer t)
    held = subst (λ ys. IsPermutation ys xs) (sym (ap₂ (λ r ys. map (with_rows r outer) ys) rels_are source_is ∙ all_same xs (λ y m. m))) (IsPermutation-refl xs)

  pub own_sources : HoldItems tables query (map (tuples_in tables outer) (items_in (block_shape query))) outer
  own_sources = held
