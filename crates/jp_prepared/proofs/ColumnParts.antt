-- Each column that a block names is one of a table in the schema, or an output of a block.
use Rattle.std.proofs.Common.{◌≡◌, ◌∙◌, ap, sym, subst, refl, ℕ, true, List, [], ◌++◌, map, Option, Some, None}
use Rattle.std.specs.Prelude.{All, Contains, slice_get}
use Rattle.std.specs.List.{flat_map}
use Rattle.std.specs.Option.{option_map}
use Rattle.std.proofs.lemmas.Option.{slice_get-map}
use Rattle.jp_facts.proofs.Members.{In, from_in, from_flat_map}
use Rattle.jp_catalog.specs.Sound.{IsSound}
use Rattle.jp_catalog.specs.declared.types.Catalog.{Catalog}
use Rattle.jp_query.specs.declared.JoinTree.{JoinTree, out-JoinTree, out-roll-JoinTree}
use Rattle.jp_query.specs.declared.JoinTree.TheVariants as tree
use Rattle.jp_query.specs.declared.Output.{Output}
use Rattle.jp_query.specs.declared.Query.{Query, out-Query}
use Rattle.jp_query.specs.declared.Expr.TheOpen.{JoinTree-F}
use Rattle.jp_query.specs.declared.Expr.TheViews.{roll-JoinTree}
use Rattle.jp_query.specs.declared.Expr.TheFolds.{fold-Output}
use Rattle.jp_query.specs.Conditions.{has_type, sees_column}
use Rattle.jp_query.specs.Layers.{JoinTreeLayer}
use Rattle.jp_query.specs.Parts.{ColumnRef}
use Rattle.jp_query.specs.Scopes.{Column, Schema, Entry, Scope, BoundIn, EntriesIn, ColumnIn, ColumnsIn, in_scope, columns_of_table, expr_bound, tree_entries, order_bound, output_column, query_columns, entries_of, columns_of_query}
use Rattle.jp_query.proofs.FoldLaws as laws
use Rattle.jp_resolution.specs.Schemas.{schema_of}
use Rattle.jp_laws.proofs.EachPart.{Each, all_of_each}
use Rattle.jp_laws.proofs.JudgedLaws.{own_seen}
use Rattle.jp_laws.proofs.ValuesFit.{same}
use Rattle.jp_folding.specs.Folding.{folded}
use Rattle.jp_problem.specs.declared.types.Item.{Item}
use Rattle.jp_problem.specs.declared.types.ItemKind.TheVariants as kind
use Rattle.jp_problem.specs.Blocks.{block_exprs}
use Rattle.jp_problem.specs.InnerBlocks.{exprs_of_item}
use Rattle.jp_conditions.proofs.Judging.{each_in}
use Rattle.jp_conditions.proofs.Numbers.{from_place}
use Rattle.jp_tree.specs.declared.prepared.Block.{Block}
use Rattle.jp_tree.specs.declared.prepared.Prepared.{Prepared}
use Rattle.jp_tree.specs.BlockParts as parts
use Rattle.jp_tree.specs.Prepared.{IsColumn, KnowsColumns}
use Rattle.jp_prepared.specs.Planned.{IsItem, IsPrepared}
use Rattle.jp_prepared.specs.Sources.{Source, IsSourceAt, items_of_block, of_item}
use Rattle.jp_prepared.proofs.BlockEntries.{LeafGood, items_good}
use Rattle.jp_prepared.proofs.Counted.{each_by, seen_slot}
use Rattle.jp_prepared.proofs.Entries.{seen_entry}
use Rattle.jp_prepared.proofs.OuterParts.{column_entry}
use Rattle.jp_prepared.proofs.Places.{QueryPlaced}
use Rattle.jp_prepared.proofs.PreparedBlocks as blocks
use Rattle.jp_prepared.proofs.SourcePlaces as there
use Rattle.jp_prepared.proofs.Zips.{of_first}

abbrev output_bounds : Schema → Output → ColumnIn
output_bounds schema = fold-Output BoundIn EntriesIn BoundIn ColumnIn ColumnsIn expr_bound (tree_entries schema) order_bound output_column query_columns

-- a column of a sub-select is an output
select_slot : (schema : Schema) (q : Query) (s : Scope) (k : ℕ) (col : Column) → slice_get (columns_of_query schema q s) k ≡ Some col → (output : Output) × (slice_get (out-Query q).columns k ≡ Some output) × (parts.output_ty output ≡ col.type)
select_slot schema q s k col h = found (slice_get (out-Query q).columns k) refl (sym (slice_get-map (in_scope o) (map (output_bounds schema) (out-Query q).columns) k ∙ ap (option_map (in_scope o)) (slice_get-map (output_bounds schema) (out-Query q).columns k)) ∙ sym whole ∙ h)
  where
    o : Scope
    o = entries_of schema (out-Query q).tree s ++ s

    whole : slice_get (columns_of_query schema q s) k ≡ slice_get (map (in_scope o) (map (output_bounds schema) (out-Query q).columns)) k
    whole = ap (λ (f : ColumnsIn). slice_get (f s) k) (laws.at-Query BoundIn EntriesIn BoundIn ColumnIn ColumnsIn expr_bound (tree_entries schema) order_bound output_column query_columns q)

    type : (a : Column) → Some a ≡ Some col → a.type ≡ col.type
    type a e = cc

    found : (x : Option Output) → slice_get (out-Query q).columns k ≡ x → option_map (in_scope o) (option_map (output_bounds schema) x) ≡ Some col → (output : Output) × (slice_get (out-Query q).columns k ≡ Some output) × (parts.output_ty output ≡ col.type)
    found (Some output) at e = (output, at, sym (ap (λ (f : ColumnIn). (f o).type) (laws.at-Output BoundIn EntriesIn BoundIn ColumnIn ColumnsIn expr_bound (tree_entries schema) order_bound output_column query_columns output)) ∙ type (output_bounds schema output o) e)
    found None at e = cc

-- the type of a column that is seen
slot_type : (o : Option Column) (c : ColumnRef) (column : Column) → o ≡ Some column → has_type o c.type ≡ true → column.type ≡ c.type
slot_type o c column is h = same column.type c.type (subst (λ (x : Option Column). has_type x c.type ≡ true) is h)

module _ (catalog : Catalog) (sound : IsSound catalog) (query : Query) (prepared : Prepared) (is : IsPrepared catalog query prepared) (bases : ℕ) where
  abbrev schema : Schema
  schema = schema_of catalog

  -- ---- entries of leaves of blocks

  abbrev pub IsOfLeaf : Entry → JoinTreeLayer → Type 0
  IsOfLeaf e (JoinTree-F.Base rel name table) = (e.relation ≡ rel) × (e.columns ≡ columns_of_table (slice_get schema table))
  IsOfLeaf e (JoinTree-F.Sub rel name q) = (s : Scope) × (e.relation ≡ rel) × (e.columns ≡ columns_of_query schema q s)
  IsOfLeaf e x = ⊥

  pub record Known (e : Entry) : Type 0 where
    pub number : ℕ
    pub source : Source
    pub at : IsSourceAt is.sources number source
    pub leaf : JoinTree
    pub among : In leaf (items_of_block source.query)
    pub of : IsOfLeaf e (out-JoinTree leaf)

  opens : (e : Entry) (x : JoinTreeLayer) (t : JoinTree) → roll-JoinTree x ≡ t → IsOfLeaf e x → IsOfLeaf e (out-JoinTree t)
  opens e x t rolls h = subst (IsOfLeaf e) (sym (out-roll-JoinTree x) ∙ ap out-JoinTree rolls) h

  pub leaf_known : (s : Scope) → LeafGood schema bases (folded query) is.sources is.are Known s
  leaf_known s number source at placed = (base, select)
    where
      base : (rel : ℕ) (name : List ℕ) (table : ℕ) → In (tree.Base rel name table) (items_of_block source.query) → Each Known (entries_of schema (tree.Base rel name table) s)
      base rel name table m =
          let t = tree.Base rel name table in
          let entry : Entry = record { relation = rel; columns = columns_of_table (slice_get schema table) } in
          subst (Each Known) (sym (ap (λ (f : EntriesIn). f s) (laws.at-Base BoundIn EntriesIn BoundIn ColumnIn ColumnsIn expr_bound (tree_entries schema) order_bound output_column query_columns rel name table)))
          (record { number = number; source = source; at = at; leaf = t; among = m; of = opens entry (JoinTree-F.Base rel name table) t (tree.rolls-Base rel name table) (refl, refl) }, tt)

      select : (rel : ℕ) (name : List ℕ) (q : Query) → In (tree.Sub rel name q) (items_of_block source.query) → Each Known (entries_of schema (tree.Sub rel name q) s)
      select rel name q m =
          let t = tree.Sub rel name q in
          let entry : Entry = record { relation = rel; columns = columns_of_query schema q s } in
          subst (Each Known) (sym (ap (λ (f : EntriesIn). f s) (laws.at-Sub BoundIn EntriesIn BoundIn ColumnIn ColumnsIn expr_bound (tree_entries schema) order_bound output_column query_columns rel name q)))
          (record { number = number; source = source; at = at; leaf = t; among = m; of = opens entry (JoinTree-F.Sub rel name q) t (tree.rolls-Sub rel name q) (s, refl, refl) }, tt)

  -- a column of an entry is one of the statement
  of_entry : (e : Entry) (c : ColumnRef) (column : Column) → Known e → e.relation ≡ c.relation → slice_get e.columns c.column ≡ Some column → column.type ≡ c.type → IsColumn schema prepared c
  of_entry e c column known rel slot type =
      let block = blocks.block_of catalog sound query prepared is known.number known.source known.at in
      let from = is.blocks known.number known.source block.0 known.at block.1 in
      let item = of_first (blocks.IsItemOf catalog sound query prepared is known.number) (items_of_block known.source.query) block.0.problem.items from.items known.leaf known.among in
      of_leaf block.0 (from_in block.0 prepared.blocks (from_place prepared.blocks known.number block.0 block.1)) known.number known.leaf item.0 (from_in item.0 block.0.problem.items item.1) item.2 known.of
    where
      of_leaf : (block : Block) → Contains prepared.blocks block → (number : ℕ) (leaf : JoinTree) (item : Item) → Contains block.problem.items item → blocks.IsItemOf catalog sound query prepared is number leaf item → IsOfLeaf e (out-JoinTree leaf) → IsColumn schema prepared c
      of_leaf block there number leaf item m (IsItem.table r table name text def opened at few made) of =
          let facts = subst (IsOfLeaf e) opened of in
          let kinds = ap (λ (i : Item). i.kind) made ∙ ap (λ n. kind.Base n table) (sym facts.0 ∙ rel) in
          IsColumn.of_table block item table column there m kinds (subst (λ (cs : List Column). slice_get cs c.column ≡ Some column) facts.1 slot) type
      of_leaf block there number leaf item m (IsItem.select r inner name q b t opened below made) of =
          let facts = subst (IsOfLeaf e) opened of in
          let kinds = ap (λ (i : Item). i.kind) made ∙ ap (λ n. kind.Sub n inner) (sym facts.1 ∙ rel) in
          let from = is.blocks inner (of_item q) b below.source below.there in
          let output = select_slot schema q facts.0 c.column column (subst (λ (cs : List Column). slice_get cs c.column ≡ Some column) facts.2 slot) in
          IsColumn.of_block block item inner b output.0 there m kinds below.there (ap (λ (us : List Output). slice_get us c.column) from.columns ∙ output.1) (output.2 ∙ type)
      of_leaf block there number leaf item m (IsItem.full k left right on l r lb rb lt rt opened a b made) of = absurd (subst (IsOfLeaf e) opened of)

  pub knows : QueryPlaced schema bases [] (folded query) → KnowsColumns schema prepared
  knows top = blocks.all_blocks catalog sound query prepared is (λ (block : Block). All (IsColumn schema prepared) (parts.columns_named block)) at_block
    where
      at_block : (number : ℕ) (block : Block) → slice_get prepared.blocks number ≡ Some block → All (IsColumn schema prepared) (parts.columns_named block)
      at_block number block at =
          let s = blocks.source_of catalog sound query prepared is number block at in
          let scoped = there.source_there schema bases (folded query) is.sources is.are Known (λ n x o p placed good. items_good schema bases (folded query) is.sources is.are Known o (leaf_known o) n x p placed) top number s.0 s.1 in
          all_of_each (IsColumn schema prepared) (parts.columns_named block) (each_by (IsColumn schema prepared) (parts.columns_named block) (column number block s scoped))
        where
          column : (number : ℕ) (block : Block) (s : (source : Source) × IsSourceAt is.sources number source × blocks.IsFrom catalog sound query prepared is number source block) → (o : Scope) × there.BlockThere schema bases Known o s.0.query → (c : ColumnRef) → In c (parts.columns_named block) → IsColumn schema prepared c
          column number block s scoped c m =
              let f = from_flat_map parts.own_columns c (parts.exprs_in block) m in
              let exprs = block_exprs s.0.query ++ flat_map exprs_of_item (items_of_block s.0.query) in
              let e = each_in (there.ExprSomewhere schema bases Known) exprs f.0 (there.exprs_there schema bases Known scoped.0 s.0.query scoped.1) (blocks.block_expr catalog sound query prepared is number s.0 block s.2 f.0 f.1) in
              let seen = each_in (λ r. sees_column e.0 r ≡ true) (parts.own_columns f.0) c (own_seen schema e.0 f.0 e.1.0.0.0.0) f.2 in
              let entry = seen_entry e.0 c.relation (column_entry e.0 c seen) in
              let typed = subst (λ (cs : List Column). has_type (slice_get cs c.column) c.type ≡ true) entry.3 seen in
              let slot = seen_slot (slice_get entry.0.columns c.column) c.type typed in
              of_entry entry.0 c slot.0 (each_in Known e.0 entry.0 e.1.1 entry.1) entry.2 slot.1 (slot_type (slice_get entry.0.columns c.column) c slot.0 slot.1 typed)
