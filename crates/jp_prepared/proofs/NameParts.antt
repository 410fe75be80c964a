-- What a prepared statement names has a name.
use Rattle.std.proofs.Common.{◌≡◌, ◌∙◌, ap, sym, subst, refl, ℕ, ◌<◌, true, List, [], ◌∷◌, ◌++◌, map, length, Option, Some, None}
use Rattle.std.specs.Prelude.{All, find, is_some, slice_get}
use Rattle.std.specs.List.{flat_map}
use Rattle.std.specs.Option.{option_map}
use Rattle.std.proofs.lemmas.List.{length-map}
use Rattle.std.proofs.lemmas.Option.{slice_get-map, slice_get_within}
use Rattle.jp_base.specs.Sets.{Has}
use Rattle.jp_facts.proofs.Members.{In, from_map, from_flat_map}
use Rattle.jp_catalog.specs.Sound.{IsSound}
use Rattle.jp_catalog.specs.declared.types.Catalog.{Catalog}
use Rattle.jp_catalog.specs.declared.types.TableDef.{TableDef}
use Rattle.jp_query.specs.declared.Expr.{Expr}
use Rattle.jp_query.specs.declared.JoinTree.{JoinTree, out-JoinTree, out-roll-JoinTree, roll-out-JoinTree}
use Rattle.jp_query.specs.declared.JoinTree.TheVariants as tree
use Rattle.jp_query.specs.declared.Order.{Order}
use Rattle.jp_query.specs.declared.Output.{Output}
use Rattle.jp_query.specs.declared.Query.{Query, out-Query, out-roll-Query, roll-out-Query}
use Rattle.jp_query.specs.declared.Expr.TheOpen.{Expr-F, JoinTree-F}
use Rattle.jp_query.specs.declared.Expr.TheViews.{roll-Expr, roll-JoinTree, roll-Order, roll-Output}
use Rattle.jp_query.specs.declared.Expr.TheFolds.{fold-Output, map-Expr, fold-roll-Expr, fold-roll-Query}
use Rattle.jp_query.specs.Conditions.{judged_leaves, judged_expr, judged_tree, judged_query, knows_placeholders, has_type, sees_column, sees_relations, relation_of}
use Rattle.jp_query.specs.Freshness.{Sublink, sublinks_in}
use Rattle.jp_query.specs.Layers.{ExprLayer, JoinTreeLayer, QueryLayer}
use Rattle.jp_query.specs.Parts.{all_in, parts, node_placeholder, ColumnRef, rels_of}
use Rattle.jp_query.specs.Refs.{only, union}
use Rattle.jp_query.specs.Scopes.{Column, Schema, Entry, Scope, BoundIn, EntriesIn, ColumnIn, ColumnsIn, in_scope, columns_of_table, expr_bound, tree_entries, order_bound, output_column, query_columns, entries_of, columns_of_query}
use Rattle.jp_query.proofs.FoldLaws as laws
use Rattle.jp_resolution.specs.Schemas.{schema_of, table_columns, schema_column}
use Rattle.jp_induction.proofs.Induction as induction
use Rattle.jp_laws.proofs.EachPart.{Each, all_of_each, each_append, each_true, each_in_parts, each_map, parts_map}
use Rattle.jp_laws.proofs.JudgedLaws.{judged_order_by, judged_output_by, own_seen}
use Rattle.jp_laws.proofs.TuplesFit.{InEntries}
use Rattle.jp_folding.specs.Folding as fold
use Rattle.jp_folding.proofs.FineDown.{expr_parts}
use Rattle.jp_folding.proofs.TypeLaws.{folded_output, query_parts_folded}
use Rattle.jp_problem.specs.declared.types.Item.{Item}
use Rattle.jp_problem.specs.Blocks.{block_exprs}
use Rattle.jp_problem.specs.InnerBlocks.{exprs_of_item}
use Rattle.jp_problem.proofs.SetTests.{is_within_says}
use Rattle.jp_problem.proofs.UnionLaws.{has_union}
use Rattle.jp_conditions.proofs.Entering.{are_rels}
use Rattle.jp_conditions.proofs.Judging.{each_in, judged_level, own_places}
use Rattle.jp_conditions.proofs.Laying.{known_has}
use Rattle.jp_conditions.proofs.Spans.{has_only}
use Rattle.jp_tree.specs.declared.prepared.Block.{Block}
use Rattle.jp_tree.specs.declared.prepared.Prepared.{Prepared}
use Rattle.jp_tree.specs.declared.prepared.RelName.{RelName}
use Rattle.jp_tree.specs.BlockParts as block_parts
use Rattle.jp_tree.specs.Prepared.{is_name_of, name_of, NamesRelation, NamesRelations, NamesColumn, IsNamed}
use Rattle.jp_prepared.specs.Names.{names_of_table, output_name, names_of, column_name}
use Rattle.jp_prepared.specs.Planned.{IsPrepared}
use Rattle.jp_prepared.specs.Sources.{Source, IsSourceAt, items_of_block}
use Rattle.jp_prepared.proofs.BlockEntries.{items_good}
use Rattle.jp_prepared.proofs.ColumnParts as columns
use Rattle.jp_prepared.proofs.Counted.{each_by, seen_slot}
use Rattle.jp_prepared.proofs.Entries.{seen_entry, entered}
use Rattle.jp_prepared.proofs.FoldedLeaves as leaves
use Rattle.jp_prepared.proofs.HeldTrees.{base_held, sub_held}
use Rattle.jp_prepared.proofs.ItemLaws.{has_rels}
use Rattle.jp_prepared.proofs.LeafTrees as lists
use Rattle.jp_prepared.proofs.LeafTrees.{no_own}
use Rattle.jp_prepared.proofs.LeafTrees.{leaf_here as tree_here}
use Rattle.jp_prepared.proofs.NamedLeaves.{record_at, record_of, record_base, record_sub, name_found}
use Rattle.jp_prepared.proofs.NestedBounds.{LeafHas, low_leaf}
use Rattle.jp_prepared.proofs.OuterParts.{column_entry}
use Rattle.jp_prepared.proofs.Places.{QueryPlaced, TreePlaced}
use Rattle.jp_prepared.proofs.PreparedBlocks as blocks
use Rattle.jp_prepared.proofs.SameLeaves.{number_at, one_tree, trees_in_query}
use Rattle.jp_prepared.proofs.SourcePlaces as there
use Rattle.jp_prepared.proofs.Zips.{of_second}

-- ---- placeholders are visible where they stand

places_mapped : {A B C D F A' B' C' D' F' : Type 0} (a : A → A') (b : B → B') (c : C → C') (d : D → D') (q : F → F') (x : Expr-F A B C D F) → node_placeholder (map-Expr A B C D F A' B' C' D' F' a b c d q x) ≡ node_placeholder x
places_mapped a b c d q (Expr-F.Place inner rels) = refl
places_mapped a b c d q x = refl

own_places_seen : (schema : Schema) (s : Scope) (e : Expr) → (judged_expr schema knows_placeholders e).passes s ≡ true → Each (λ rels. sees_relations s rels ≡ true) (block_parts.own_placeholders e)
own_places_seen schema s = induction.expr_alone (λ e. (judged_expr schema knows_placeholders e).passes s ≡ true → Each (λ rels. sees_relations s rels ≡ true) (block_parts.own_placeholders e)) step
  where
    applied : {A : Type 0} (C D : A → Type 0) (xs : List A) → Each (λ x. C x → D x) xs → Each C xs → Each D xs
    applied C D [] f h = tt
    applied C D (x ∷ xs) f h = (f.0 h.0, applied C D xs f.1 h.1)

    step : (x : ExprLayer) → Each (λ e. (judged_expr schema knows_placeholders e).passes s ≡ true → Each (λ rels. sees_relations s rels ≡ true) (block_parts.own_placeholders e)) (parts x)
        → (judged_expr schema knows_placeholders (roll-Expr x)).passes s ≡ true → Each (λ rels. sees_relations s rels ≡ true) (block_parts.own_placeholders (roll-Expr x))
    step x each h =
        let y = map-Expr Expr JoinTree Order Output Query (List ℕ) (Unit {0}) (Unit {0}) (Unit {0}) (Unit {0}) block_parts.own_placeholders (λ t. tt) (λ o. tt) (λ u. tt) (λ q. tt) x in
        let here = each_true (sees_relations s) (node_placeholder (judged_level schema knows_placeholders x)) (own_places schema knows_placeholders s x h) in
        let own = subst (Each (λ rels. sees_relations s rels ≡ true)) (places_mapped (judged_expr schema knows_placeholders) (judged_tree schema knows_placeholders) (judged_order_by schema knows_placeholders) (judged_output_by schema knows_placeholders) (judged_query schema knows_placeholders) x ∙ sym (places_mapped block_parts.own_placeholders (λ t. tt) (λ o. tt) (λ u. tt) (λ q. tt) x)) here in
        let inner = applied (λ e. (judged_expr schema knows_placeholders e).passes s ≡ true) (λ e. Each (λ rels. sees_relations s rels ≡ true) (block_parts.own_placeholders e)) (parts x) each (expr_parts schema knows_placeholders s x h).0 in
        subst (Each (λ rels. sees_relations s rels ≡ true)) (sym (fold-roll-Expr (List ℕ) (Unit {0}) (Unit {0}) (Unit {0}) (Unit {0}) block_parts.placeholder_level (λ t. tt) (λ o. tt) (λ u. tt) (λ q. tt) x))
        (each_append (λ rels. sees_relations s rels ≡ true) (node_placeholder y) (all_in (parts y)) own
        (each_in_parts (λ rels. sees_relations s rels ≡ true) (parts y) (subst (Each (Each (λ rels. sees_relations s rels ≡ true))) (sym (parts_map block_parts.own_placeholders (λ t. tt) (λ o. tt) (λ u. tt) (λ q. tt) x)) (each_map (Each (λ rels. sees_relations s rels ≡ true)) block_parts.own_placeholders (parts x) inner))))

relation_entry : (s : Scope) (rels rel : ℕ) → sees_relations s rels ≡ true → Has rels rel → InEntries s rel
relation_entry s rels rel seen has =
    let some = (has_union (map only (map relation_of s)) rel).0 ((is_within_says rels (union (map only (map relation_of s)))).0 seen rel has) in
    let number = from_map only some.0 (map relation_of s) some.1 in
    let e = from_map relation_of number.0 s number.1 in
    subst (InEntries s) (e.2 ∙ sym (has_only number.0 rel (subst (λ set. Has set rel) (sym number.2) some.2))) (entered e.0 s e.1)

-- ---- every leaf has the form of one

abbrev IsLeafForm : JoinTreeLayer → Type 0
IsLeafForm (JoinTree-F.Base rel name table) = Unit {0}
IsLeafForm (JoinTree-F.Sub rel name query) = Unit {0}
IsLeafForm x = ⊥

abbrev IsLeaf : JoinTree → Type 0
IsLeaf t = IsLeafForm (out-JoinTree t)

opens : (P : JoinTreeLayer → Type 0) (x : JoinTreeLayer) (t : JoinTree) → roll-JoinTree x ≡ t → P x → P (out-JoinTree t)
opens P x t rolls h = subst P (sym (out-roll-JoinTree x) ∙ ap out-JoinTree rolls) h

all_leaves : (q : Query) (u : JoinTree) → In u (trees_in_query q) → IsLeaf u
all_leaves = induction.at_query (leaves.HE IsLeaf) (leaves.HT IsLeaf) (leaves.HO IsLeaf) (leaves.HU IsLeaf) (leaves.HQ IsLeaf) (record {
  expr = leaves.rolled IsLeaf;
  tree = λ t ts es qs. leaves.tree_rolled IsLeaf t (own t) ts es qs;
  order = λ o h u m. h u (subst (In u) (lists.at_order JoinTree no_own tree_here o) m);
  output = λ o h u m. h u (subst (In u) (lists.at_output JoinTree no_own tree_here o) m);
  query = leaves.query_rolled IsLeaf;
})
  where
    own : (t : JoinTreeLayer) → Each IsLeaf (tree_here (lists.tree_level JoinTree no_own tree_here t))
    own (JoinTree-F.Base rel name table) = (opens IsLeafForm (JoinTree-F.Base rel name table) (tree.Base rel name table) (tree.rolls-Base rel name table) tt, tt)
    own (JoinTree-F.Sub rel name query) = (opens IsLeafForm (JoinTree-F.Sub rel name query) (tree.Sub rel name query) (tree.rolls-Sub rel name query) tt, tt)
    own (JoinTree-F.Join kind left right on) = tt
    own (JoinTree-F.From members conds) = tt

number_of : (catalog : Catalog) (x : JoinTreeLayer) (n : ℕ) → IsLeafForm x → (record_at catalog x).relation ≡ n → number_at x n
number_of catalog (JoinTree-F.Base rel name table) n form e = e
number_of catalog (JoinTree-F.Sub rel name query) n form e = e
number_of catalog (JoinTree-F.Join kind left right on) n form e = absurd form
number_of catalog (JoinTree-F.From members conds) n form e = absurd form

-- ---- widths

table_widths : (catalog : Catalog) (table : ℕ) → length (names_of_table (slice_get catalog.tables table)) ≡ length (columns_of_table (slice_get (schema_of catalog) table))
table_widths catalog table = at (slice_get catalog.tables table) ∙ sym (ap (λ (o : Option (List Column)). length (columns_of_table o)) (slice_get-map table_columns catalog.tables table))
  where
    at : (o : Option (List ℕ × TableDef)) → length (names_of_table o) ≡ length (columns_of_table (option_map table_columns o))
    at (Some entry) = length-map entry.1.columns column_name ∙ sym (length-map entry.1.columns schema_column)
    at None = refl

folded_width : (q : Query) → length (out-Query (fold.folded q)).columns ≡ length (out-Query q).columns
folded_width q =
    let l = out-Query q in
    let y = query_parts_folded l in
    let is = ap fold.folded (sym (roll-out-Query q)) ∙ fold-roll-Query Expr JoinTree Order Output Query fold.expr_folded fold.tree_folded roll-Order roll-Output fold.query_folded l in
    ap (λ (x : Query). length (out-Query x).columns) is ∙ ap (λ (x : QueryLayer). length x.columns) (out-roll-Query (record y { conds = fold.conditions_folded y.conds })) ∙ length-map l.columns folded_output

select_width : (schema : Schema) (q : Query) (s : Scope) → length (columns_of_query schema q s) ≡ length (out-Query q).columns
select_width schema q s =
    ap (λ (f : ColumnsIn). length (f s)) (laws.at-Query BoundIn EntriesIn BoundIn ColumnIn ColumnsIn expr_bound (tree_entries schema) order_bound output_column query_columns q)
    ∙ length-map (map bounds (out-Query q).columns) (in_scope (entries_of schema (out-Query q).tree s ++ s)) ∙ length-map (out-Query q).columns bounds
  where
    bounds : Output → ColumnIn
    bounds = fold-Output BoundIn EntriesIn BoundIn ColumnIn ColumnsIn expr_bound (tree_entries schema) order_bound output_column query_columns

-- ---- from which leaf of the query that is handed in a leaf of the folded one comes

abbrev ComesAt : Query → JoinTreeLayer → Type 0
ComesAt query (JoinTree-F.Base rel name table) = In (tree.Base rel name table) (trees_in_query query)
ComesAt query (JoinTree-F.Sub rel name q) = (before : Query) × In (tree.Sub rel name before) (trees_in_query query) × (q ≡ fold.folded before)
ComesAt query x = ⊥

abbrev Comes : Query → JoinTree → Type 0
Comes query t = ComesAt query (out-JoinTree t)

closes : (P : JoinTreeLayer → Type 0) (x : JoinTreeLayer) (t : JoinTree) → roll-JoinTree x ≡ t → P (out-JoinTree t) → P x
closes P x t rolls h = subst P (ap out-JoinTree (sym rolls) ∙ out-roll-JoinTree x) h

all_come : (query : Query) (u : JoinTree) → In u (trees_in_query (fold.folded query)) → Comes query u
all_come query = leaves.leaves_folded (Comes query) (λ u. In u (trees_in_query query))
    (λ rel name table m. opens (ComesAt query) (JoinTree-F.Base rel name table) (tree.Base rel name table) (tree.rolls-Base rel name table) m)
    (λ rel name q m. opens (ComesAt query) (JoinTree-F.Sub rel name (fold.folded q)) (tree.Sub rel name (fold.folded q)) (tree.rolls-Sub rel name (fold.folded q)) (q, m, refl))
    query (λ u m. m)

module _ (catalog : Catalog) (sound : IsSound catalog) (query : Query) (prepared : Prepared) (is : IsPrepared catalog query prepared) (bases : ℕ) (leaves_apart : (judged_leaves query).apart ≡ true)
    (equal : (a b : Sublink) → In a (sublinks_in query) → In b (sublinks_in query) → a.number ≡ b.number → a.node ≡ b.node) (top : QueryPlaced (schema_of catalog) bases [] (fold.folded query)) where
  abbrev schema : Schema
  schema = schema_of catalog

  abbrev Known : Entry → Type 0
  Known = columns.Known catalog sound query prepared is bases

  abbrev IsOfLeaf : Entry → JoinTreeLayer → Type 0
  IsOfLeaf = columns.IsOfLeaf catalog sound query prepared is bases

  scoped : (number : ℕ) (source : Source) → IsSourceAt is.sources number source → (s : Scope) × there.BlockThere schema bases Known s source.query
  scoped = there.source_there schema bases (fold.folded query) is.sources is.are Known (λ n x o p placed good. items_good schema bases (fold.folded query) is.sources is.are Known o (columns.leaf_known catalog sound query prepared is bases o) n x p placed) top

  -- ---- what is named

  named_leaf : (u : JoinTree) → In u (trees_in_query query) → (rel : ℕ) → (record_of catalog u).relation ≡ rel → rel < 64 → (name : RelName) × (name_of prepared rel ≡ Some name) × (name.columns ≡ (record_of catalog u).columns)
  named_leaf u m rel is_rel low =
      let found = name_found catalog query u m (subst (λ n. n < 64) (sym is_rel) low) in
      let same = one_tree query leaves_apart equal found.2 u rel found.3 m
      (number_of catalog (out-JoinTree found.2) rel (all_leaves query found.2 found.3) (found.4 ∙ is_rel))
      (number_of catalog (out-JoinTree u) rel (all_leaves query u m) is_rel) in
      (found.0, ap (λ (names : List RelName). find (is_name_of rel) names) is.names ∙ ap (λ n. find (is_name_of n) (names_of catalog query)) (sym is_rel) ∙ found.1, found.5 ∙ ap (λ t. (record_of catalog t).columns) same)

  abbrev IsEntryNamed : Entry → Type 0
  IsEntryNamed e = (name : RelName) × (name_of prepared e.relation ≡ Some name) × (length name.columns ≡ length e.columns)

  leaf_named : (e : Entry) (number : ℕ) (source : Source) (x : JoinTreeLayer) (t : JoinTree) → roll-JoinTree x ≡ t → IsSourceAt is.sources number source → In t (items_of_block source.query) → IsOfLeaf e x → LeafHas schema bases true (λ n. n < 64) x → IsEntryNamed e
  leaf_named e number source (JoinTree-F.Base rel name table) t rolls at m of low =
      let leaf = tree.Base rel name table in
      let among = subst (λ y. In y (items_of_block source.query)) (sym rolls ∙ tree.rolls-Base rel name table) m in
      let comes = closes (ComesAt query) (JoinTree-F.Base rel name table) leaf (tree.rolls-Base rel name table) (base_held (Comes query) (fold.folded query) is.sources is.are (all_come query) number source rel name table at among) in
      let found = named_leaf leaf comes rel (ap (λ (l : Rattle.jp_prepared.specs.Names.Leaf). l.relation) (record_base catalog rel name table)) low in
      (found.0, ap (name_of prepared) of.0 ∙ found.1, ap (λ (cs : List (List ℕ)). length cs) (found.2 ∙ ap (λ (l : Rattle.jp_prepared.specs.Names.Leaf). l.columns) (record_base catalog rel name table)) ∙ table_widths catalog table ∙ sym (ap (λ (cs : List Column). length cs) of.1))
  leaf_named e number source (JoinTree-F.Sub rel name q) t rolls at m of low =
      let leaf = tree.Sub rel name q in
      let among = subst (λ y. In y (items_of_block source.query)) (sym rolls ∙ tree.rolls-Sub rel name q) m in
      let comes = closes (ComesAt query) (JoinTree-F.Sub rel name q) leaf (tree.rolls-Sub rel name q) (sub_held (Comes query) (fold.folded query) is.sources is.are (all_come query) number source rel name q at among) in
      let found = named_leaf (tree.Sub rel name comes.0) comes.1 rel (ap (λ (l : Rattle.jp_prepared.specs.Names.Leaf). l.relation) (record_sub catalog rel name comes.0)) low.0 in (
        found.0,
        ap (name_of prepared) of.1 ∙ found.1,
        ap (λ (cs : List (List ℕ)). length cs) (found.2 ∙ ap (λ (l : Rattle.jp_prepared.specs.Names.Leaf). l.columns) (record_sub catalog rel name comes.0)) ∙ length-map (out-Query comes.0).columns output_name ∙ sym (folded_width comes.0)
            ∙ sym (ap (λ (y : Query). length (out-Query y).columns) comes.2) ∙ sym (select_width schema q of.0) ∙ sym (ap (λ (cs : List Column). length cs) of.2),
      )
  leaf_named e number source (JoinTree-F.Join kind left right on) t rolls at m of low = absurd of
  leaf_named e number source (JoinTree-F.From members conds) t rolls at m of low = absurd of

  named_entry : (e : Entry) → Known e → IsEntryNamed e
  named_entry e known =
      let at = scoped known.number known.source known.at in
      let placed = each_in (there.TreeThere schema bases Known at.0) (items_of_block known.source.query) known.leaf (there.items_there schema bases Known at.0 known.source.query at.1) known.among in
      let low = low_leaf schema bases at.0 (out-JoinTree known.leaf) (subst (TreePlaced schema bases at.0) (sym (roll-out-JoinTree known.leaf)) placed.0) in
      leaf_named e known.number known.source (out-JoinTree known.leaf) known.leaf (roll-out-JoinTree known.leaf) known.at known.among known.of low

  -- a relation of a scope whose entries are known
  named_relation : (s : Scope) → Each Known s → (rel : ℕ) → InEntries s rel → NamesRelation prepared rel
  named_relation s known rel m =
      let entry = seen_entry s rel m in
      let name = named_entry entry.0 (each_in Known s entry.0 known entry.1) in
      ap is_some (ap (name_of prepared) (sym entry.2) ∙ name.1)

  -- ---- of a block

  module _ (number : ℕ) (block : Block) (at : slice_get prepared.blocks number ≡ Some block) where
    source : (source : Source) × IsSourceAt is.sources number source × blocks.IsFrom catalog sound query prepared is number source block
    source = blocks.source_of catalog sound query prepared is number block at

    exprs : (e : Expr) → In e (block_parts.exprs_in block) → there.ExprSomewhere schema bases Known e
    exprs e m =
        let s = source in
        let o = scoped number s.0 s.1 in
        each_in (there.ExprSomewhere schema bases Known) (block_exprs s.0.query ++ flat_map exprs_of_item (items_of_block s.0.query)) e (there.exprs_there schema bases Known o.0 s.0.query o.1) (blocks.block_expr catalog sound query prepared is number s.0 block s.2 e m)

    item_named : (item : Item) → In item block.problem.items → NamesRelations prepared item.rels
    item_named item m rel has =
        let s = source in
        let o = scoped number s.0 s.1 in
        let leaf = of_second (blocks.IsItemOf catalog sound query prepared is number) (items_of_block s.0.query) block.problem.items s.2.items item m in
        let rels = has_rels catalog is.sources (slice_get prepared.blocks) prepared.pool.nodes number leaf.0 item leaf.2 in
        let in_leaf = known_has (rels_of leaf.0) rel (subst (λ n. Has n rel) rels has) in
        named_relation (entries_of schema leaf.0 o.0) (o.1.2 leaf.0 leaf.1) rel ((are_rels schema o.0 leaf.0 rel).0 in_leaf)

    placeholder_named : (rels : ℕ) → In rels (block_parts.placeholders_named block) → NamesRelations prepared rels
    placeholder_named rels m rel has =
        let f = from_flat_map block_parts.own_placeholders rels (block_parts.exprs_in block) m in
        let e = exprs f.0 f.1 in
        let seen = each_in (λ n. sees_relations e.0 n ≡ true) (block_parts.own_placeholders f.0) rels (own_places_seen schema e.0 f.0 e.1.0.0.0.1) f.2 in
        named_relation e.0 e.1.1 rel (relation_entry e.0 rels rel seen has)

    column_named : (c : ColumnRef) → In c (block_parts.columns_named block) → NamesColumn prepared c
    column_named c m =
        let f = from_flat_map block_parts.own_columns c (block_parts.exprs_in block) m in
        let e = exprs f.0 f.1 in
        let seen = each_in (λ r. sees_column e.0 r ≡ true) (block_parts.own_columns f.0) c (own_seen schema e.0 f.0 e.1.0.0.0.0) f.2 in
        let entry = seen_entry e.0 c.relation (column_entry e.0 c seen) in
        let typed = subst (λ (cs : List Column). has_type (slice_get cs c.column) c.type ≡ true) entry.3 seen in
        let slot = seen_slot (slice_get entry.0.columns c.column) c.type typed in
        let low = slice_get_within entry.0.columns c.column slot.0 slot.1 in
        let name = named_entry entry.0 (each_in Known e.0 entry.0 e.1.1 entry.1) in
        (name.0, ap (name_of prepared) (sym entry.2) ∙ name.1, subst (λ n. c.column < n) (sym name.2) low)

    block_named : IsNamed prepared block
    block_named = record {
      items = all_of_each (λ (item : Item). NamesRelations prepared item.rels) block.problem.items (each_by (λ (item : Item). NamesRelations prepared item.rels) block.problem.items item_named);
      placeholders = all_of_each (NamesRelations prepared) (block_parts.placeholders_named block) (each_by (NamesRelations prepared) (block_parts.placeholders_named block) placeholder_named);
      columns = all_of_each (NamesColumn prepared) (block_parts.columns_named block) (each_by (NamesColumn prepared) (block_parts.columns_named block) column_named);
    }

  pub named : All (IsNamed prepared) prepared.blocks
  named = blocks.all_blocks catalog sound query prepared is (IsNamed prepared) block_named
