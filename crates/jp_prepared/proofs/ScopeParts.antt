-- One scope shows the columns of all items, and bounds hold in it.
use Rattle.std.proofs.Common.{◌≡◌, ◌∙◌, ap, ap₂, sym, subst, refl, ℕ, inl, true, List, [], ◌∷◌, ◌++◌, map, Some}
use Rattle.std.specs.Prelude.{All, slice_get}
use Rattle.std.specs.List.{flat_map}
use Rattle.jp_facts.proofs.Members.{In, to_in, in_flat_map}
use Rattle.jp_catalog.specs.Sound.{IsSound}
use Rattle.jp_catalog.specs.declared.types.Catalog.{Catalog}
use Rattle.jp_query.specs.declared.JoinTree.{JoinTree, out-JoinTree, out-roll-JoinTree}
use Rattle.jp_query.specs.declared.JoinTree.TheVariants as tree
use Rattle.jp_query.specs.declared.Output.{Output}
use Rattle.jp_query.specs.declared.Query.{Query, out-Query}
use Rattle.jp_query.specs.declared.Expr.TheOpen.{JoinTree-F}
use Rattle.jp_query.specs.declared.Expr.{Expr}
use Rattle.jp_query.specs.declared.Expr.TheFolds.{fold-Output}
use Rattle.jp_query.specs.Conditions.{judged_leaves, IsBoundedExpr}
use Rattle.jp_query.specs.Freshness.{Sublink, sublinks_in}
use Rattle.jp_query.specs.Scopes.{Schema, Entry, Scope, BoundIn, EntriesIn, ColumnIn, ColumnsIn, in_scope, columns_of_table, visible_columns, expr_bound, tree_entries, order_bound, query_columns, entries_of, columns_of_query}
use Rattle.jp_query.specs.Scopes.{output_column as column_step}
use Rattle.jp_query.proofs.FoldLaws as laws
use Rattle.jp_resolution.specs.Schemas.{schema_of}
use Rattle.jp_laws.proofs.EachPart.{Each, all_of_each, each_left, each_mapped}
use Rattle.jp_folding.specs.Folding.{folded}
use Rattle.jp_problem.specs.declared.types.Item.{Item}
use Rattle.jp_problem.specs.declared.types.ItemKind.{ItemKind}
use Rattle.jp_problem.specs.declared.types.ItemKind.TheVariants as kind
use Rattle.jp_problem.specs.Blocks.{block_exprs, output_expr, order_expr}
use Rattle.jp_problem.specs.InnerBlocks.{blocks_at, blocks_of_item, exprs_of_item}
use Rattle.jp_conditions.proofs.Judging.{each_in}
use Rattle.jp_conditions.proofs.Numbers.{at_place}
use Rattle.jp_tree.specs.declared.prepared.Block.{Block}
use Rattle.jp_tree.specs.declared.prepared.Prepared.{Prepared}
use Rattle.jp_tree.specs.BlockParts.{exprs_in, output_ty, IsBlockAt}
use Rattle.jp_tree.specs.Prepared.{KnowsScope, Shows, output_column}
use Rattle.jp_prepared.specs.Planned.{IsItem, IsPrepared}
use Rattle.jp_prepared.specs.Sources.{Source, IsSourceAt, items_of_block, queries_of_items, of_item}
use Rattle.jp_prepared.proofs.CostBound.{as_written}
use Rattle.jp_prepared.proofs.Counted.{each_by}
use Rattle.jp_prepared.proofs.OneEntry as entry
use Rattle.jp_prepared.proofs.OneScope as scope
use Rattle.jp_prepared.proofs.Places.{ExprPlaced, QueryPlaced}
use Rattle.jp_prepared.proofs.PreparedBlocks as blocks
use Rattle.jp_prepared.proofs.SourcePlaces as there
use Rattle.jp_prepared.proofs.Zips.{of_second}

abbrev IsTableKind : ItemKind → ℕ → ℕ → Type 0
IsTableKind (kind.Base r t) rel table = (r ≡ rel) × (t ≡ table)
IsTableKind k rel table = ⊥

abbrev IsSelectKind : ItemKind → ℕ → ℕ → Type 0
IsSelectKind (kind.Sub r b) rel block = (r ≡ rel) × (b ≡ block)
IsSelectKind k rel block = ⊥

module _ (catalog : Catalog) (sound : IsSound catalog) (query : Query) (prepared : Prepared) (is : IsPrepared catalog query prepared) (bases : ℕ) (leaves_apart : (judged_leaves (folded query)).apart ≡ true)
    (equal : (a b : Sublink) → In a (sublinks_in (folded query)) → In b (sublinks_in (folded query)) → a.number ≡ b.number → a.node ≡ b.node) (top : QueryPlaced (schema_of catalog) bases [] (folded query)) where
  abbrev schema : Schema
  schema = schema_of catalog

  abbrev pub all : Scope
  all = scope.everywhere schema bases (folded query) is.sources is.are leaves_apart equal top

  abbrev Given : Entry → Type 0
  Given = scope.Given schema bases (folded query) is.sources is.are leaves_apart equal top

  placed : (number : ℕ) (source : Source) → IsSourceAt is.sources number source → (s : Scope) × there.BlockThere schema bases Given s source.query
  placed = scope.place schema bases (folded query) is.sources is.are leaves_apart equal top

  seen : (e : Entry) → Given e → visible_columns all e.relation ≡ e.columns
  seen = scope.seen schema bases (folded query) is.sources is.are leaves_apart equal top

  -- ---- tables

  table_seen : (number : ℕ) (source : Source) (leaf : JoinTree) (item : Item) (rel table : ℕ) → IsSourceAt is.sources number source → In leaf (items_of_block source.query) → blocks.IsItemOf catalog sound query prepared is number leaf item → IsTableKind item.kind rel table
      → visible_columns all rel ≡ columns_of_table (slice_get schema table)
  table_seen number source leaf item rel table at m (IsItem.table r t name text def opened row few made) kinds =
      let k = subst (λ (i : Item). IsTableKind i.kind rel table) made kinds in
      let written = as_written leaf (JoinTree-F.Base r name t) (tree.Base r name t) opened (tree.rolls-Base r name t) in
      let e : Entry = record { relation = r; columns = columns_of_table (slice_get schema t) } in
      sym (ap (visible_columns all) k.0) ∙ seen e (entry.Given.of_table number source r name t e at (subst (λ x. In x (items_of_block source.query)) written m) refl) ∙ ap (λ i. columns_of_table (slice_get schema i)) k.1
  table_seen number source leaf item rel table at m (IsItem.select r inner name q b t opened below made) kinds = absurd (subst (λ (i : Item). IsTableKind i.kind rel table) made kinds)
  table_seen number source leaf item rel table at m (IsItem.full k left right on l r lb rb lt rt opened a b made) kinds = absurd (subst (λ (i : Item). IsTableKind i.kind rel table) made kinds)

  -- ---- sub-selects

  abbrev output_bounds : Output → ColumnIn
  output_bounds = fold-Output BoundIn EntriesIn BoundIn ColumnIn ColumnsIn expr_bound (tree_entries schema) order_bound column_step query_columns

  columns_everywhere : (o : Scope) (us : List Output) → Each (λ u. there.ExprThere schema bases Given o (output_expr u)) us → map (in_scope o) (map output_bounds us) ≡ map (output_column schema all) us
  columns_everywhere o [] h = refl
  columns_everywhere o (u ∷ us) h =
      let bound = scope.bound_everywhere schema bases (folded query) is.sources is.are leaves_apart equal top o (output_expr u) h.0.0 h.0.1 in
      let here = ap (λ (f : ColumnIn). f o) (laws.at-Output BoundIn EntriesIn BoundIn ColumnIn ColumnsIn expr_bound (tree_entries schema) order_bound column_step query_columns u) in
      ap₂ ◌∷◌ (here ∙ ap (λ n. record { type = output_ty u; bound = n }) (sym bound)) (columns_everywhere o us h.1)

  -- the query of an item's block, in the scope of the block that has the item
  select_columns : (number : ℕ) (source : Source) (s : Scope) (q : Query) (inner : ℕ) → there.BlockThere schema bases Given s source.query → In q (queries_of_items source.query) → IsSourceAt is.sources inner (of_item q) → columns_of_query schema q s ≡ map (output_column schema all) (out-Query q).columns
  select_columns number source s q inner h m at =
      let q_there = there.item_queries_there schema bases Given s source.query h q m in
      let block : there.BlockThere schema bases Given s q = (q_there.0, q_there.1, entry.block_given schema bases (folded query) is.sources is.are leaves_apart equal inner (of_item q) s at q_there.0 q_there.1) in
      let us = (out-Query q).columns in
      let o = entries_of schema (out-Query q).tree s ++ s in
      let listed = there.listed_there schema bases Given s q block in
      let outputs = each_mapped (there.ExprThere schema bases Given o) output_expr us (each_left (there.ExprThere schema bases Given o) (map output_expr us) (map order_expr (out-Query q).order) listed) in
      ap (λ (f : ColumnsIn). f s) (laws.at-Query BoundIn EntriesIn BoundIn ColumnIn ColumnsIn expr_bound (tree_entries schema) order_bound column_step query_columns q) ∙ columns_everywhere o us outputs

  unsome : (a b : Block) → Some a ≡ Some b → a ≡ b
  unsome a b e = cc

  select_seen : (number : ℕ) (source : Source) (leaf : JoinTree) (item : Item) (rel inner : ℕ) (b : Block) → IsSourceAt is.sources number source → In leaf (items_of_block source.query) → blocks.IsItemOf catalog sound query prepared is number leaf item → IsSelectKind item.kind rel inner → IsBlockAt prepared inner b
      → visible_columns all rel ≡ map (output_column schema all) b.columns
  select_seen number source leaf item rel inner b at m (IsItem.select r place name q made_block t opened below made) kinds at_b =
      let k = subst (λ (i : Item). IsSelectKind i.kind rel inner) made kinds in
      let written = as_written leaf (JoinTree-F.Sub r name q) (tree.Sub r name q) opened (tree.rolls-Sub r name q) in
      let in_items = subst (λ x. In x (items_of_block source.query)) written m in
      let p = placed number source at in
      let layer = sym (out-roll-JoinTree (JoinTree-F.Sub r name q)) ∙ ap out-JoinTree (tree.rolls-Sub r name q) in
      let used = in_flat_map blocks_of_item (tree.Sub r name q) q (items_of_block source.query) in_items (subst (λ x. In q (blocks_at x)) layer (inl refl)) in
      let q_there = there.item_queries_there schema bases Given p.0 source.query p.1 q used in
      let e : Entry = record { relation = r; columns = columns_of_query schema q p.0 } in
      let given = entry.Given.of_select number source p.0 r name q e at in_items q_there.0.0.0.0 (λ d w. each_in Given p.0 d p.1.1 w) refl in
      let same = unsome made_block b (sym below.there ∙ ap (slice_get prepared.blocks) k.1 ∙ at_b) in
      let from = is.blocks place (of_item q) made_block below.source below.there in
      sym (ap (visible_columns all) k.0) ∙ seen e given ∙ select_columns number source p.0 q place p.1 used below.source ∙ sym (ap (map (output_column schema all)) from.columns) ∙ ap (λ (x : Block). map (output_column schema all) x.columns) same
  select_seen number source leaf item rel inner b at m (IsItem.table r t name text def opened row few made) kinds at_b = absurd (subst (λ (i : Item). IsSelectKind i.kind rel inner) made kinds)
  select_seen number source leaf item rel inner b at m (IsItem.full k left right on l r lb rb lt rt opened a c made) kinds at_b = absurd (subst (λ (i : Item). IsSelectKind i.kind rel inner) made kinds)

  pub shows : Shows schema prepared all
  shows = record {
    tables = λ block item rel table at_block m kinds.
        let n = at_place prepared.blocks block (to_in block prepared.blocks at_block) in
        let s = blocks.source_of catalog sound query prepared is n.0 block n.1 in
        let leaf = of_second (blocks.IsItemOf catalog sound query prepared is n.0) (items_of_block s.0.query) block.problem.items s.2.items item (to_in item block.problem.items m) in
        table_seen n.0 s.0 leaf.0 item rel table s.1 leaf.1 leaf.2 (subst (λ k. IsTableKind k rel table) (sym kinds) (refl, refl));
    selects = λ block item rel number inner at_block m kinds at_inner.
        let n = at_place prepared.blocks block (to_in block prepared.blocks at_block) in
        let s = blocks.source_of catalog sound query prepared is n.0 block n.1 in
        let leaf = of_second (blocks.IsItemOf catalog sound query prepared is n.0) (items_of_block s.0.query) block.problem.items s.2.items item (to_in item block.problem.items m) in
        select_seen n.0 s.0 leaf.0 item rel number inner s.1 leaf.1 leaf.2 (subst (λ k. IsSelectKind k rel number) (sym kinds) (refl, refl)) at_inner;
  }

  -- what holds of an expression wherever it stands
  everywhere : (P : Expr → Type 0) → ((s : Scope) (e : Expr) → ExprPlaced schema bases s e → Each Given s → P e) → All (λ (b : Block). All P (exprs_in b)) prepared.blocks
  everywhere P holds = blocks.all_blocks catalog sound query prepared is (λ (b : Block). All P (exprs_in b)) (λ number block at.
      let s = blocks.source_of catalog sound query prepared is number block at in
      let p = placed number s.0 s.1 in
      let exprs = block_exprs s.0.query ++ flat_map exprs_of_item (items_of_block s.0.query) in
      all_of_each P (exprs_in block) (each_by P (exprs_in block) (λ e m.
      let x = each_in (there.ExprSomewhere schema bases Given) exprs e (there.exprs_there schema bases Given p.0 s.0.query p.1) (blocks.block_expr catalog sound query prepared is number s.0 block s.2 e m) in
      holds x.0 e x.1.0 x.1.1)))

  pub bounded : All (λ (b : Block). All (IsBoundedExpr schema all) (exprs_in b)) prepared.blocks
  bounded = everywhere (IsBoundedExpr schema all) (scope.bounded_everywhere schema bases (folded query) is.sources is.are leaves_apart equal top)

  pub known : All (λ (b : Block). All (KnowsScope schema all) (exprs_in b)) prepared.blocks
  known = everywhere (KnowsScope schema all) (scope.known_everywhere schema bases (folded query) is.sources is.are leaves_apart equal top)
