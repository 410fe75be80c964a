-- Outer references of a block are visible where it stands: the statement has none, and those of an item's block belong to no
-- item beside it.
use Rattle.std.proofs.Common.{◌≡◌, ◌∙◌, sym, subst, refl, ℕ, ◌<◌, ◌⊎◌, inl, inr, true, List, [], ◌∷◌, ◌++◌, Some, None, arith}
use Rattle.std.specs.Prelude.{slice_get}
use Rattle.std.specs.List.{flat_map}
use Rattle.std.proofs.lemmas.List.Elements.{All-contains}
use Rattle.std.proofs.lemmas.Option.{slice_get_within}
use Rattle.jp_base.specs.Sets.{Has}
use Rattle.jp_facts.proofs.Members.{In, to_in, from_in, from_flat_map, in_flat_map}
use Rattle.jp_catalog.specs.Sound.{IsSound}
use Rattle.jp_catalog.specs.declared.types.Catalog.{Catalog}
use Rattle.jp_query.specs.declared.JoinTree.{JoinTree}
use Rattle.jp_query.specs.declared.Query.{Query, out-Query}
use Rattle.jp_query.specs.Conditions.{has_type, sees_column}
use Rattle.jp_query.specs.Outermost.{Outer, outermost}
use Rattle.jp_query.specs.OwnLeaves.{own_leaves}
use Rattle.jp_query.specs.Parts.{ColumnRef, leaves_in, columns_in}
use Rattle.jp_query.specs.Refs.{below_64, refs_of}
use Rattle.jp_query.specs.Scopes.{Column, Schema, Entry, Scope, entries_of}
use Rattle.jp_resolution.specs.Schemas.{schema_of}
use Rattle.jp_laws.specs.Referred.{IsReferred}
use Rattle.jp_laws.proofs.EachPart.{Each, each_weaker}
use Rattle.jp_laws.proofs.GatheredLaws.{columns_referred}
use Rattle.jp_laws.proofs.JudgedLaws.{own_seen}
use Rattle.jp_laws.proofs.LeafLaws.{own_in_query, rels_are_own}
use Rattle.jp_laws.proofs.OuterLaws.{NotIn, leaves_apart}
use Rattle.jp_laws.proofs.OwnColumns.{own_of_all}
use Rattle.jp_laws.proofs.TuplesFit.{InEntries}
use Rattle.jp_query.specs.Parts.{rels_of}
use Rattle.jp_folding.specs.Folding.{folded}
use Rattle.jp_problem.specs.declared.types.Item.{Item}
use Rattle.jp_problem.specs.Blocks.{block_exprs}
use Rattle.jp_problem.specs.InnerBlocks.{exprs_of_item, blocks_at, blocks_of_item, side_block}
use Rattle.jp_problem.specs.Shapes.{shape_of, items_in}
use Rattle.jp_conditions.proofs.Entering.{are_rels}
use Rattle.jp_conditions.proofs.Judging.{each_in}
use Rattle.jp_conditions.proofs.Laying.{low_bits, known_has}
use Rattle.jp_conditions.proofs.Shaping.{own_items}
use Rattle.jp_tree.specs.declared.prepared.Block.{Block}
use Rattle.jp_tree.specs.declared.prepared.Prepared.{Prepared}
use Rattle.jp_tree.specs.BlockParts as parts
use Rattle.jp_tree.specs.Prepared.{HasStatement, ItemsStandAlone}
use Rattle.jp_prepared.specs.Planned.{IsItem, IsPrepared}
use Rattle.jp_prepared.specs.Sources.{Source, IsSourceAt, HasBehind, items_of_block, queries_of_items, sublinks_of_block, of_item, of_sublink}
use Rattle.jp_prepared.proofs.Counted.{each_by, in_some, seen_slot}
use Rattle.jp_prepared.proofs.Entries.{in_or_not, seen_entry, unseen, entered}
use Rattle.jp_prepared.proofs.ItemLaws.{has_rels}
use Rattle.jp_prepared.proofs.Places.{QueryPlaced}
use Rattle.jp_prepared.proofs.PreparedBlocks as blocks
use Rattle.jp_prepared.proofs.SourcePlaces as there
use Rattle.jp_prepared.proofs.SublinkParts.{of_source}
use Rattle.jp_prepared.proofs.Zips.{of_first, of_second}

-- a relation of an item is one of those that are known
low_has : (x i : ℕ) → i < 64 → Has x i → Has (below_64 x) i
low_has x i low h = low_bits x i low ∙ h

-- a column that is seen has an entry
pub column_entry : (s : Scope) (c : ColumnRef) → sees_column s c ≡ true → InEntries s c.relation
column_entry s c seen = elim (in_or_not s c.relation) [
  | inl k ↦ k
  | inr none ↦ absurd (nothing (seen_slot None c.type (subst (λ (cs : List Column). has_type (slice_get cs c.column) c.type ≡ true) (unseen s c.relation none) seen)))
]
  where
    nothing : (column : Column) × (None ≡ Some column) → ⊥
    nothing h = no h.0 h.1
      where
        no : (column : Column) → None ≡ Some column → ⊥
        no column e = cc

module _ (catalog : Catalog) (sound : IsSound catalog) (query : Query) (prepared : Prepared) (is : IsPrepared catalog query prepared) (bases : ℕ) where
  abbrev schema : Schema
  schema = schema_of catalog

  abbrev Placed : Scope → Query → Type 0
  Placed s q = QueryPlaced schema bases s q

  -- ---- what a scope of the block holds

  module _ (s : Scope) (q : Query) (h : Placed s q) where
    abbrev OfItem : ℕ → Type 0
    OfItem rel = (v : JoinTree) × In v (items_of_block q) × InEntries (entries_of schema v s) rel

    abbrev Good : Entry → Type 0
    Good e = OfItem e.relation ⊎ InEntries s e.relation

    block_there : there.BlockThere schema bases Good s q
    block_there = (h, each_by Good s (λ e k. inr (entered e s k)), λ v m. each_by Good (entries_of schema v s) (λ e k. inl (v, m, entered e (entries_of schema v s) k)))

    from_scope : (o : Scope) (rel : ℕ) → Each Good o → InEntries o rel → OfItem rel ⊎ InEntries s rel
    from_scope o rel good k = let e = seen_entry o rel k in subst (λ n. OfItem n ⊎ InEntries s n) e.2 (each_in Good o e.0 good e.1)

    -- a column that the block names is one of an item or is visible outside
    named_column : (number : ℕ) (source : Source) (block : Block) → source.query ≡ q → blocks.IsFrom catalog sound query prepared is number source block → (c : ColumnRef) → In c (parts.columns_named block) → (c.relation < 64) × (OfItem c.relation ⊎ InEntries s c.relation)
    named_column number source block same from c m =
        let f = from_flat_map parts.own_columns c (parts.exprs_in block) m in
        let exprs = block_exprs q ++ flat_map exprs_of_item (items_of_block q) in
        let stands = subst (λ x. In f.0 (block_exprs x ++ flat_map exprs_of_item (items_of_block x))) same (blocks.block_expr catalog sound query prepared is number source block from f.0 f.1) in
        let e = each_in (there.ExprSomewhere schema bases Good) exprs f.0 (there.exprs_there schema bases Good s q block_there) stands in
        let low = each_in (λ (r : ColumnRef). r.relation < 64) (parts.own_columns f.0) c (own_of_all (λ r. r.relation < 64) f.0 (each_weaker (IsReferred (refs_of f.0)) (λ r. r.relation < 64) (λ r k. k.0) (columns_in f.0) (columns_referred f.0 e.1.0.1.0.0.0))) f.2 in
        let seen = each_in (λ r. sees_column e.0 r ≡ true) (parts.own_columns f.0) c (own_seen schema e.0 f.0 e.1.0.0.0.0) f.2 in
        (low, from_scope e.0 c.relation e.1.1 (column_entry e.0 c seen))

    -- of an item
    of_item_relation : (number : ℕ) (source : Source) (block : Block) → source.query ≡ q → blocks.IsFrom catalog sound query prepared is number source block → (rel : ℕ) → rel < 64 → OfItem rel → parts.HasRelation block rel
    of_item_relation number source block same from rel low item =
        let found = of_first (blocks.IsItemOf catalog sound query prepared is number) (items_of_block source.query) block.problem.items from.items item.0 (subst (λ x. In item.0 (items_of_block x)) (sym same) item.1) in
        let rels = has_rels catalog is.sources (slice_get prepared.blocks) prepared.pool.nodes number item.0 found.0 found.2 in
        (found.0, from_in found.0 block.problem.items found.1, subst (λ n. Has n rel) (sym rels) (low_has (rels_of item.0) rel low ((are_rels schema s item.0 rel).1 item.2)))

  -- ---- the blocks that a block uses

  unsome : (a b : Source) → Some a ≡ Some b → a ≡ b
  unsome a b e = cc

  -- the block of an item is that of a query of its leaf
  item_source : (number : ℕ) (source : Source) (block : Block) → blocks.IsFrom catalog sound query prepared is number source block → (inner : ℕ) → In inner (parts.item_blocks block) → (q : Query) × In q (queries_of_items source.query) × IsSourceAt is.sources inner (of_item q)
  item_source number source block from inner m =
      let item = from_flat_map parts.blocks_of_item inner block.problem.items m in
      let leaf = of_second (blocks.IsItemOf catalog sound query prepared is number) (items_of_block source.query) block.problem.items from.items item.0 item.1 in
      let found = of_leaf leaf.0 item.0 leaf.2 inner item.2 in
      (found.0, in_flat_map blocks_of_item leaf.0 found.0 (items_of_block source.query) leaf.1 found.1, found.2)
    where
      of_leaf : (leaf : JoinTree) (item : Item) → blocks.IsItemOf catalog sound query prepared is number leaf item → (place : ℕ) → In place (parts.blocks_of_item item) → (q : Query) × In q (blocks_of_item leaf) × IsSourceAt is.sources place (of_item q)
      of_leaf leaf item (IsItem.table rel table name text def e at few made) place k = absurd (empty (subst (λ (i : Item). In place (parts.blocks_of_item i)) made k))
        where
          empty : ⊥ → ⊥
          empty gone = gone
      of_leaf leaf item (IsItem.select rel n name q b t e below made) place k = one (subst (λ (i : Item). In place (parts.blocks_of_item i)) made k)
        where
          one : In place (n ∷ []) → (x : Query) × In x (blocks_of_item leaf) × IsSourceAt is.sources place (of_item x)
          one (inl same) = (q, subst (λ l. In q (blocks_at l)) (sym e) (inl refl), subst (λ p. IsSourceAt is.sources p (of_item q)) same below.source)
          one (inr gone) = absurd gone
      of_leaf leaf item (IsItem.full kind left right on l r lb rb lt rt e a b made) place k = two (subst (λ (i : Item). In place (parts.blocks_of_item i)) made k)
        where
          two : In place (l ∷ r ∷ []) → (x : Query) × In x (blocks_of_item leaf) × IsSourceAt is.sources place (of_item x)
          two (inl same) = (side_block left, subst (λ y. In (side_block left) (blocks_at y)) (sym e) (inl refl), subst (λ p. IsSourceAt is.sources p (of_item (side_block left))) same a.source)
          two (inr (inl same)) = (side_block right, subst (λ y. In (side_block right) (blocks_at y)) (sym e) (inr (inl refl)), subst (λ p. IsSourceAt is.sources p (of_item (side_block right))) same b.source)
          two (inr (inr gone)) = absurd gone

  -- the block of a sublink is that of the sublink's query
  sublink_source : (number : ℕ) (source : Source) → IsSourceAt is.sources number source → (o : Outer) → In o (sublinks_of_block source.query) → (inner : ℕ) → parts.IsOfSublink prepared o.number inner → IsSourceAt is.sources inner (of_sublink o)
  sublink_source number source at o m inner h =
      let behind = All-contains (λ x. HasBehind is.sources number (of_sublink x)) (sublinks_of_block source.query) o (is.are.sublinks number source at) (from_in o (sublinks_of_block source.query) m) in
      let t = blocks.source_of catalog sound query prepared is inner h.block h.there in
      let same : inner ≡ behind.0 = is.are.one inner behind.0 o.number t.0 (of_sublink o) t.1 behind.2 (sym t.2.sub ∙ h.named) refl in
      subst (λ p. IsSourceAt is.sources p (of_sublink o)) (sym same) behind.2

  -- ---- outer references are visible

  -- what is visible where the used block stands is visible where the block stands, if it is of none of its items
  through : (number : ℕ) (c : ColumnRef) (source : Source) → IsSourceAt is.sources number source → (s : Scope) → Placed s source.query → (block : Block) → parts.IsBlockAt prepared number block → ¬ parts.HasRelation block c.relation → (inner : ℕ) → parts.Uses prepared block inner
      → ((x : Source) → IsSourceAt is.sources inner x → (o : Scope) → Placed o x.query → (c.relation < 64) × InEntries o c.relation) → (c.relation < 64) × InEntries s c.relation
  through number c source at s h block at_block none inner (parts.Uses.by_item m) below =
      let from = is.blocks number source block at at_block in
      let q = item_source number source block from inner (to_in inner (parts.item_blocks block) m) in
      below (of_item q.0) q.2 s (there.item_queries_there schema bases (Good s source.query h) s source.query (block_there s source.query h) q.0 q.1).0
  through number c source at s h block at_block none inner (parts.Uses.by_sublink o m h_of) below =
      let from = is.blocks number source block at at_block in
      let f = from_flat_map outermost o (parts.exprs_in block) (to_in o (parts.sublinks_of block) m) in
      let in_source = of_source catalog sound query prepared is number source block from f.0 o f.1 f.2 in
      let stands = each_in (λ (x : Outer). there.QuerySomewhere schema bases (Good s source.query h) x.query) (sublinks_of_block source.query) o (there.sublinks_there schema bases (Good s source.query h) s source.query (block_there s source.query h)) in_source in
      let inside = below (of_sublink o) (sublink_source number source at o in_source inner h_of) stands.0 stands.1.0 in
      (inside.0, elim (from_scope s source.query h stands.0 c.relation stands.1.1 inside.1) [ inl item ↦ absurd (none (of_item_relation s source.query h number source block refl from c.relation inside.0 item)) | inr outside ↦ outside ])

  pub visible : (number : ℕ) (c : ColumnRef) → parts.IsOuterReference prepared number c → (source : Source) → IsSourceAt is.sources number source → (s : Scope) → Placed s source.query → (c.relation < 64) × InEntries s c.relation
  visible number c (parts.IsOuterReference.named block at_block m none) source at s h =
      let from = is.blocks number source block at at_block in
      let found = named_column s source.query h number source block refl from c (to_in c (parts.columns_named block) m) in
      (found.0, elim found.1 [ inl item ↦ absurd (none (of_item_relation s source.query h number source block refl from c.relation found.0 item)) | inr outside ↦ outside ])
  visible number c (parts.IsOuterReference.passed_on block inner at_block uses outer none) source at s h = through number c source at s h block at_block none inner uses (visible inner c outer)

  -- ---- the two parts

  module _ (top : Placed [] (folded query)) where
    pub statement : HasStatement prepared
    statement = record {
      there = let low = slice_get_within is.sources 0 (record { query = folded query; sub = None }) is.are.statement in let count = is.count in omega (arith, low, count);
      alone = λ c ref. empty c (visible 0 c ref (record { query = folded query; sub = None }) is.are.statement [] top).1;
    }
      where
        empty : (c : ColumnRef) → InEntries [] c.relation → ⊥
        empty c h = cc

    pub items_alone : ItemsStandAlone prepared
    items_alone number inner block c at_block m ref beside =
        let s = blocks.source_of catalog sound query prepared is number block at_block in
        let placed = there.source_placed schema bases (folded query) is.sources is.are top number s.0 s.1 in
        let q = item_source number s.0 block s.2 inner (to_in inner (parts.item_blocks block) m) in
        let here = there.item_queries_there schema bases there.Any placed.0 s.0.query placed.1 q.0 q.1 in
        let outside = visible inner c ref (of_item q.0) q.2 placed.0 here.0 in
        let leaf = of_second (blocks.IsItemOf catalog sound query prepared is number) (items_of_block s.0.query) block.problem.items s.2.items beside.0 (to_in beside.0 block.problem.items beside.1) in
        let rels = has_rels catalog is.sources (slice_get prepared.blocks) prepared.pool.nodes number leaf.0 beside.0 leaf.2 in
        let has = known_has (rels_of leaf.0) c.relation (subst (λ n. Has n c.relation) rels beside.2) in
        let whole = (out-Query s.0.query).tree in
        let own = subst (In c.relation) (sym (own_items whole)) (in_some (items_in (shape_of whole)) leaf.0 c.relation leaf.1 (to_in c.relation (own_leaves leaf.0) (rels_are_own leaf.0 c.relation has))) in
        each_in (NotIn placed.0) (leaves_in s.0.query) c.relation (leaves_apart schema s.0.query placed.0 placed.1.0.0.1.0) (to_in c.relation (leaves_in s.0.query) (own_in_query s.0.query c.relation (from_in c.relation (own_leaves whole) own))) outside.1
