-- The problem of each block is one that the search takes, once the blocks behind it are made.
use Rattle.std.proofs.Common.{◌≡◌, ◌∙◌, ap, ap₂, sym, subst, refl, ℕ, zero, suc, ◌/◌, ◌<◌, ◌≤◌, ◌⊎◌, inl, inr, Bool, true, false, List, [], ◌∷◌, ◌++◌, map, length, Option, Some, arith}
use Rattle.std.specs.Prelude.{All, slice_get, max, count_ones, if◌then◌else◌}
use Rattle.std.specs.List.{AllZip, flat_map, list_any}
use Rattle.std.specs.Option.{option_map}
use Rattle.std.proofs.lemmas.List.{length-map, length-append}
use Rattle.std.proofs.lemmas.List.Elements.{All-contains}
use Rattle.std.proofs.lemmas.Option.{slice_get-map}
use Rattle.jp_facts.proofs.Members.{In, from_in, from_flat_map}
use Rattle.jp_catalog.specs.Sound.{IsSound, IsSoundTable}
use Rattle.jp_catalog.specs.declared.types.Catalog.{Catalog}
use Rattle.jp_catalog.specs.declared.types.TableDef.{TableDef}
use Rattle.jp_query.specs.declared.Expr.{Expr}
use Rattle.jp_query.specs.declared.JoinTree.{JoinTree}
use Rattle.jp_query.specs.declared.JoinTree.TheVariants as tree
use Rattle.jp_query.specs.declared.Query.{Query}
use Rattle.jp_query.specs.declared.Expr.TheOpen.{JoinTree-F}
use Rattle.jp_query.specs.Conditions.{IsTyped, IsBounded}
use Rattle.jp_query.specs.NoRight.{HasNoRight}
use Rattle.jp_query.specs.Parts.{ColumnRef, columns_in, base_leaves_in}
use Rattle.jp_query.specs.Refs.{only, union}
use Rattle.jp_query.specs.Scopes.{Column, Schema, Scope, columns_of_table, entries_of}
use Rattle.jp_query.specs.Typing.{IsTypedExpr}
use Rattle.jp_resolution.specs.Schemas.{schema_of, table_columns, schema_column}
use Rattle.jp_laws.proofs.EachPart.{Each, all_of_each, each_weaker}
use Rattle.jp_problem.specs.declared.types.Item.{Item}
use Rattle.jp_problem.specs.declared.types.ItemKind.TheVariants as kind
use Rattle.jp_problem.specs.InnerBlocks.{exprs_at, exprs_of_item}
use Rattle.jp_problem.specs.Made.{IsBlock, IsMade, IsEstimable, IsSearchable, HasStatedRows, HasDistinct, CountsColumns, IsPositive, IsCounted, item_exprs, exprs_of}
use Rattle.jp_problem.specs.Problems.{AreItemsOf, problem_of}
use Rattle.jp_problem.specs.Shapes.{block_shape, exprs_in}
use Rattle.jp_conditions.proofs.Estimable.{made_estimable, made_searchable}
use Rattle.jp_conditions.proofs.ItemCount.{some_items}
use Rattle.jp_conditions.proofs.Judging.{each_in}
use Rattle.jp_conditions.proofs.Numbers.{from_place}
use Rattle.jp_tree.specs.declared.pool.PlanNode.{PlanNode}
use Rattle.jp_tree.specs.declared.prepared.Block.{Block}
use Rattle.jp_prepared.specs.Items.{distinct_of, distinct_values, is_key}
use Rattle.jp_prepared.specs.Names.{below}
use Rattle.jp_prepared.specs.Planned.{IsItem}
use Rattle.jp_prepared.specs.Searched.{AreMadeBehind, CanBeSearched}
use Rattle.jp_prepared.specs.Sources.{Source, IsSourceAt, AreSources, items_of_block}
use Rattle.jp_prepared.proofs.CostBound.{items_stated, items_cost, as_written}
use Rattle.jp_prepared.proofs.Counted.{each_by, counted}
use Rattle.jp_prepared.proofs.ItemLaws.{have_rels}
use Rattle.jp_prepared.proofs.NestedBounds.{few_bases, few_leaves}
use Rattle.jp_prepared.proofs.Places.{QueryPlaced, typed_there, placed_there}
use Rattle.jp_prepared.proofs.ProblemExprs.{problem_exprs}
use Rattle.jp_prepared.proofs.SourcePlaces as there
use Rattle.jp_prepared.proofs.Zips.{each_zipped}

-- ---- the numbers of distinct values

length_below : (n : ℕ) → length (below n) ≡ n
unfolding below
length_below zero = refl
length_below (suc n) = let rest = length_below n in omega (arith, length-append (below n) (n ∷ []), rest)

positive : (def : TableDef) (ns : List ℕ) → 1 ≤ def.rows → Each IsPositive (map (distinct_values def) ns)
positive def [] some = tt
positive def (n ∷ ns) some = (at (list_any (is_key n) def.keys), positive def ns some)
  where
    at : (b : Bool) → 1 ≤ (if b then def.rows else max 1 (def.rows / 10))
    at true = some
    at false = omega arith

-- the columns of a table in the schema of the catalogue
table_width : (catalog : Catalog) (table : ℕ) (text : List ℕ) (def : TableDef) → slice_get catalog.tables table ≡ Some (text, def) → length (columns_of_table (slice_get (schema_of catalog) table)) ≡ length def.columns
table_width catalog table text def there =
    ap (λ (o : Option (List Column)). length (columns_of_table o)) (slice_get-map table_columns catalog.tables table ∙ ap (option_map table_columns) there) ∙ length-map def.columns schema_column

module _ (catalog : Catalog) (sound : IsSound catalog) (sources : List Source) (block_at : ℕ → Option Block) (nodes : List PlanNode) (number : ℕ) where
  -- the ON lists of Full joins are those of the leaves
  on_lists : (leaf : JoinTree) (item : Item) → IsItem catalog sources block_at nodes number leaf item → item_exprs item ≡ exprs_of_item leaf
  on_lists leaf item (IsItem.table rel table name text def e at few is) = ap item_exprs is ∙ sym (ap exprs_at e)
  on_lists leaf item (IsItem.select rel inner name query block t e inside is) = ap item_exprs is ∙ sym (ap exprs_at e)
  on_lists leaf item (IsItem.full k left right on l r lb rb lt rt e a b is) = ap item_exprs is ∙ sym (ap exprs_at e)

  pub all_on : (leaves : List JoinTree) (items : List Item) → AllZip (IsItem catalog sources block_at nodes number) leaves items → flat_map item_exprs items ≡ flat_map exprs_of_item leaves
  all_on [] [] h = refl
  all_on [] (item ∷ items) h = absurd h
  all_on (leaf ∷ leaves) [] h = absurd h
  all_on (leaf ∷ leaves) (item ∷ items) h = ap₂ ◌++◌ (on_lists leaf item h.0) (all_on leaves items h.1)

  module _ (bases : ℕ) (few : count_ones bases ≤ 16) (s : Scope) (q : Query) (h : QueryPlaced (schema_of catalog) bases s q) (items : List Item) (zip : AllZip (IsItem catalog sources block_at nodes number) (items_of_block q) items) (ready : AreMadeBehind catalog sources block_at nodes number) where
    abbrev schema : Schema
    schema = schema_of catalog

    block : IsBlock q
    block = record { schema = schema; outer = s; typed = typed_there schema bases few s q h; bounded = h.0.1.1; no_right = h.1.0.1.0 }

    are : AreItemsOf q items
    are = have_rels catalog sources block_at nodes number (items_of_block q) items zip

    made : IsMade (problem_of items q)
    made = record { query = q; block = block; items = are; made = inl refl }

    anyway : there.BlockThere schema bases there.Any s q
    anyway = (h, there.any_all s, λ u own. there.any_all (entries_of schema u s))

    typed_on : All IsTypedExpr (flat_map item_exprs items)
    typed_on = subst (All IsTypedExpr) (sym (all_on (items_of_block q) items zip)) (all_of_each IsTypedExpr (flat_map exprs_of_item (items_of_block q))
        (each_weaker (there.ExprSomewhere schema bases there.Any) IsTypedExpr (λ e x. x.1.0.1.0.0.0) (flat_map exprs_of_item (items_of_block q)) (there.on_there schema bases there.Any s q anyway)))

    abbrev exprs : List Expr
    exprs = exprs_of (problem_of items q)

    counts : (leaf : JoinTree) (rel table : ℕ) (name text : List ℕ) (def : TableDef) → In leaf (items_of_block q) → leaf ≡ tree.Base rel name table → slice_get catalog.tables table ≡ Some (text, def) → CountsColumns exprs (distinct_of def) (kind.Base rel table)
    counts leaf rel table name text def m is at =
        let some = (All-contains (λ (entry : List ℕ × TableDef). IsSoundTable entry.1) catalog.tables (text, def) sound.tables (from_in (text, def) catalog.tables (from_place catalog.tables table (text, def) at))).rows in (
          all_of_each IsPositive (distinct_of def) (positive def (below (length def.columns)) some),
          all_of_each (IsCounted rel (distinct_of def)) (flat_map columns_in exprs) (each_by (IsCounted rel (distinct_of def)) (flat_map columns_in exprs) column),
        )
      where
        long : length (distinct_of def) ≡ length (columns_of_table (slice_get schema table))
        long = length-map (below (length def.columns)) (distinct_values def) ∙ length_below (length def.columns) ∙ sym (table_width catalog table text def at)

        column : (c : ColumnRef) → In c (flat_map columns_in exprs) → IsCounted rel (distinct_of def) c
        column c k same =
            let f = from_flat_map columns_in c exprs k in
            let stands : In f.0 (flat_map exprs_of_item (items_of_block q)) ⊎ In f.0 (exprs_in (block_shape q)) = elim (problem_exprs q items f.0 f.1) [ inl a ↦ inl (subst (In f.0) (all_on (items_of_block q) items zip) a) | inr b ↦ inr b ] in
            let low = each_in (λ (r : ColumnRef). r.relation ≡ rel → r.column < length (columns_of_table (slice_get schema table))) (columns_in f.0) c (counted schema bases s q h leaf rel name table is m f.0 stands) f.2 same in
            omega (arith, low, long)

    distinct_at : (leaf : JoinTree) (item : Item) → In leaf (items_of_block q) → IsItem catalog sources block_at nodes number leaf item → HasDistinct exprs item
    distinct_at leaf item m (IsItem.table rel table name text def e at few is) =
        subst (HasDistinct exprs) (sym is) (counts leaf rel table name text def m (as_written leaf (JoinTree-F.Base rel name table) (tree.Base rel name table) e (tree.rolls-Base rel name table)) at)
    distinct_at leaf item m (IsItem.select rel inner name query b t e inside is) = subst (HasDistinct exprs) (sym is) tt
    distinct_at leaf item m (IsItem.full k left right on l r lb rb lt rt e a b is) = subst (HasDistinct exprs) (sym is) tt

    estimable : IsEstimable (problem_of items q)
    estimable =
        made_estimable (problem_of items q) made typed_on (all_of_each HasStatedRows items (items_stated catalog sound sources block_at nodes number (items_of_block q) items ready zip))
        (all_of_each (HasDistinct exprs) items (each_zipped (IsItem catalog sources block_at nodes number) (HasDistinct exprs) (items_of_block q) items zip distinct_at))

    searchable : IsSearchable (problem_of items q)
    searchable =
        let sum = items_cost catalog sound sources block_at nodes number q items ready zip in
        let some = some_items q items block are in
        let base_count = few_bases schema bases few s q h in
        let leaf_count = few_leaves schema bases s q h in
        made_searchable (problem_of items q) made estimable (omega (arith, sum, some, base_count, leaf_count))

    pub can_be_searched : CanBeSearched q items
    can_be_searched = record { block = block; are = are; made = made; searchable = searchable }

  -- ---- the block of a source

  pub source_searched : (query : Query) → IsTyped (schema_of catalog) [] query → IsBounded (schema_of catalog) [] query → HasNoRight query → AreSources query sources → AreMadeBehind catalog sources block_at nodes number
      → (source : Source) (items : List Item) → IsSourceAt sources number source → AllZip (IsItem catalog sources block_at nodes number) (items_of_block source.query) items → CanBeSearched source.query items
  source_searched query typed bounded no_right are ready source items at zip =
      let bases = union (map only (base_leaves_in query)) in
      let placed = there.source_placed (schema_of catalog) bases query sources are (placed_there (schema_of catalog) [] query typed bounded no_right) number source at in
      can_be_searched bases typed.few placed.0 source.query placed.1.0 items zip ready
