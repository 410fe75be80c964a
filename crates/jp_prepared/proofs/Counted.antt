-- A column of a base leaf of a block that the block's problem names is one of its table.
use Rattle.std.proofs.Common.{◌≡◌, ◌∙◌, ap, sym, subst, refl, ℕ, ◌<◌, ◌⊎◌, inl, inr, true, List, [], ◌∷◌, map, length, Option, Some, None}
use Rattle.std.specs.Prelude.{slice_get}
use Rattle.std.specs.List.{flat_map}
use Rattle.std.proofs.lemmas.Option.{slice_get_within}
use Rattle.jp_base.specs.declared.values.Ty.{Ty}
use Rattle.jp_facts.proofs.Members.{In, to_in, from_in, in_map, in_append_left, in_append_right, from_append, from_flat_map}
use Rattle.jp_query.specs.declared.Expr.{Expr}
use Rattle.jp_query.specs.declared.JoinTree.{JoinTree, out-JoinTree, roll-out-JoinTree, out-roll-JoinTree}
use Rattle.jp_query.specs.declared.JoinTree.TheVariants as tree
use Rattle.jp_query.specs.declared.Query.{Query, out-Query}
use Rattle.jp_query.specs.declared.Expr.TheOpen.{JoinTree-F}
use Rattle.jp_query.specs.declared.Expr.TheViews.{roll-JoinTree}
use Rattle.jp_query.specs.Conditions.{Leaves, together, expr_leaves, tree_leaves, order_leaves, output_leaves, query_leaves, has_type, sees_column}
use Rattle.jp_query.specs.Conditions.{beside as leaves_beside}
use Rattle.jp_query.specs.Layers.{JoinTreeLayer}
use Rattle.jp_query.specs.OwnLeaves.{own_leaves, tree_own_leaves}
use Rattle.jp_query.specs.Parts.{ColumnRef, all_in, columns_in, leaves_in}
use Rattle.jp_query.specs.Scopes.{Column, Schema, Entry, Scope, BoundIn, EntriesIn, ColumnIn, ColumnsIn, columns_of_table, expr_bound, tree_entries, order_bound, output_column, query_columns, entries_of}
use Rattle.jp_query.proofs.FoldLaws as laws
use Rattle.jp_laws.proofs.EachPart.{Each, each_weaker}
use Rattle.jp_laws.proofs.LeafLaws.{own_in_query}
use Rattle.jp_laws.proofs.OuterLaws.{NotIn, leaves_apart}
use Rattle.jp_laws.proofs.TuplesFit.{InEntries}
use Rattle.jp_problem.specs.InnerBlocks.{exprs_at, exprs_of_item}
use Rattle.jp_problem.specs.Shapes.{block_shape, shape_of, items_in, exprs_in}
use Rattle.jp_conditions.proofs.Entering.{own_leaf, own_found, entry_leaf}
use Rattle.jp_conditions.proofs.Judging.{each_in, expr_leaf_set, tree_leaf_set, query_leaves_level, tree_leaves_level}
use Rattle.jp_conditions.proofs.Leaves.{HasLeaf, of_together, condition_leaf}
use Rattle.jp_conditions.proofs.Shaping.{own_items}
use Rattle.jp_conditions.proofs.Sheltered.{none_inside, Sheltered, told}
use Rattle.jp_prepared.specs.Sources.{items_of_block}
use Rattle.jp_prepared.proofs.ColumnsSeen.{SeenIn, columns_seen}
use Rattle.jp_prepared.proofs.Entries.{in_or_not, seen_entry, unseen, entered}
use Rattle.jp_prepared.proofs.ItemsApart.{items_apart, parts_apart}
use Rattle.jp_prepared.proofs.Places.{QueryPlaced}
use Rattle.jp_prepared.proofs.SourcePlaces as there

pub each_by : {X : Type 0} (P : X → Type 0) (xs : List X) → ((x : X) → In x xs → P x) → Each P xs
each_by P [] f = tt
each_by P (x ∷ xs) f = (f x (inl refl), each_by P xs (λ y m. f y (inr m)))

pub in_some : (xs : List JoinTree) (t : JoinTree) (n : ℕ) → In t xs → In n (own_leaves t) → In n (all_in (map own_leaves xs))
in_some [] t n m h = absurd m
in_some (x ∷ xs) t n (inl e) h = in_append_left n (own_leaves x) (all_in (map own_leaves xs)) (subst (λ u. In n (own_leaves u)) (sym e) h)
in_some (x ∷ xs) t n (inr m) h = in_append_right n (own_leaves x) (all_in (map own_leaves xs)) (in_some xs t n m h)

-- a column that is seen is there
pub seen_slot : (o : Option Column) (t : Ty) → has_type o t ≡ true → (column : Column) × (o ≡ Some column)
seen_slot (Some column) t h = (column, refl)
seen_slot None t h = cc

module _ (schema : Schema) (bases : ℕ) (s : Scope) (q : Query) (h : QueryPlaced schema bases s q) (leaf : JoinTree) (rel : ℕ) (name : List ℕ) (table : ℕ) (is : leaf ≡ tree.Base rel name table) (m : In leaf (items_of_block q)) where
  abbrev whole : JoinTree
  whole = (out-Query q).tree

  abbrev table_columns : List Column
  table_columns = columns_of_table (slice_get schema table)

  abbrev Good : Entry → Type 0
  Good e = e.relation ≡ rel → e.columns ≡ table_columns

  apart : (tree_leaf_set whole).apart ≡ true
  apart = (there.tree_there schema bases there.Any s q (h, there.any_all s, λ u own. there.any_all (entries_of schema u s))).0.1.0.1.1

  own_here : In (own_leaf rel) (tree_leaf_set leaf).leaves
  own_here = subst (λ t. In (own_leaf rel) (tree_leaf_set t).leaves) (sym is)
      (subst (λ (a : Leaves). In (own_leaf rel) a.leaves) (sym (laws.at-Base Leaves Leaves Leaves Leaves Leaves expr_leaves tree_leaves order_leaves output_leaves query_leaves rel name table)) (inl refl))

  own_number : In rel (own_leaves whole)
  own_number = subst (In rel) (sym (own_items whole)) (in_some (items_in (shape_of whole)) leaf rel m
      (subst (λ t. In rel (own_leaves t)) (sym is) (subst (In rel) (sym (laws.at-Base (Unit {0}) (List ℕ) (Unit {0}) (Unit {0}) (Unit {0}) (λ x. tt) tree_own_leaves (λ o. tt) (λ u. tt) (λ q. tt) rel name table)) (inl refl))))

  -- no other item has a leaf of this number
  pub this_item : (v : JoinTree) → In v (items_of_block q) → HasLeaf (tree_leaf_set v) rel → leaf ≡ v
  this_item v k l = (items_apart whole).one apart leaf v rel m k own_here l

  -- ---- the scopes in the block

  not_outer : InEntries s rel → ⊥
  not_outer = each_in (NotIn s) (leaves_in q) rel (leaves_apart schema q s h.0.1.0) (to_in rel (leaves_in q) (own_in_query q rel (from_in rel (own_leaves whole) own_number)))

  outer_good : Each Good s
  outer_good = each_by Good s (λ e k same. absurd (not_outer (subst (InEntries s) same (entered e s k))))

  base_entries : (t : JoinTree) → t ≡ tree.Base rel name table → (e : Entry) → In e (entries_of schema t s) → e.columns ≡ table_columns
  base_entries t same e k = at (subst (In e) (ap (λ x. entries_of schema x s) same ∙ ap (λ (f : EntriesIn). f s) (laws.at-Base BoundIn EntriesIn BoundIn ColumnIn ColumnsIn expr_bound (tree_entries schema) order_bound output_column query_columns rel name table)) k)
    where
      at : In e (record { relation = rel; columns = table_columns } ∷ []) → e.columns ≡ table_columns
      at (inl f) = ap (λ (x : Entry). x.columns) (sym f)
      at (inr gone) = absurd gone

  own_good : there.OwnGood schema bases Good s whole
  own_good v among = each_by Good (entries_of schema v s) at
    where
      at : (e : Entry) → In e (entries_of schema v s) → Good e
      at e k same =
          let this = this_item v among (subst (HasLeaf (tree_leaf_set v)) same (entry_leaf schema s v e.relation (entered e (entries_of schema v s) k))) in
          base_entries v (sym this ∙ is) e k

  pub block : there.BlockThere schema bases Good s q
  block = (h, outer_good, own_good)

  -- ---- columns

  abbrev pub IsCountedHere : ColumnRef → Type 0
  IsCountedHere c = c.relation ≡ rel → c.column < length table_columns

  seen_counted : (o : Scope) (c : ColumnRef) → Each Good o → sees_column o c ≡ true → IsCountedHere c
  seen_counted o c good seen same = elim (in_or_not o c.relation) [
    | inl k ↦ (
        let entry = seen_entry o c.relation k in
        let columns = entry.3 ∙ each_in Good o entry.0 good entry.1 (entry.2 ∙ same) in
        let slot = seen_slot (slice_get table_columns c.column) c.type (subst (λ (cs : List Column). has_type (slice_get cs c.column) c.type ≡ true) columns seen) in
        slice_get_within table_columns c.column slot.0 slot.1
        )
    | inr none ↦ (let slot = seen_slot None c.type (subst (λ (cs : List Column). has_type (slice_get cs c.column) c.type ≡ true) (unseen o c.relation none) seen) in cc)
  ]

  expr_counted : (e : Expr) → there.ExprSomewhere schema bases Good e → (HasLeaf (expr_leaf_set e) rel → ⊥) → Each IsCountedHere (columns_in e)
  expr_counted e at none = each_weaker (SeenIn at.0 (expr_leaf_set e)) IsCountedHere each (columns_in e) (columns_seen schema at.0 e at.1.0.0.0.0)
    where
      each : (c : ColumnRef) → SeenIn at.0 (expr_leaf_set e) c → IsCountedHere c
      each c (inl seen) same = seen_counted at.0 c at.1.1 seen same
      each c (inr k) same = absurd (none (subst (HasLeaf (expr_leaf_set e)) same k))

  -- ---- the leaves inside expressions have other numbers

  sheltered : Sheltered (own_leaves whole) (exprs_in (shape_of whole)) (tree_leaf_set whole)
  sheltered = told whole apart

  none_above : (e : Expr) → In e (out-Query q).conds → HasLeaf (expr_leaf_set e) rel → ⊥
  none_above e k l =
      let level = query_leaves_level (out-Query q) in
      let columns = together level.columns in
      let two = leaves_beside columns level.tree in
      let three = leaves_beside two (together level.conds) in
      let all = sym (ap (λ (a : Leaves). a.apart) (laws.at-Query Leaves Leaves Leaves Leaves Leaves expr_leaves tree_leaves order_leaves output_leaves query_leaves q)) ∙ h.1.0.1.1 in
      let outer = parts_apart three (together level.order) all in
      let inner = parts_apart two (together level.conds) outer.0 in
      let found = of_together rel level.conds (expr_leaf_set e) (in_map expr_leaf_set e (out-Query q).conds k) l in
      none_inside rel two.leaves (together level.conds).leaves found.0 inner.2 (in_append_right (own_leaf rel) columns.leaves level.tree.leaves (own_found whole rel own_number)) found.1 found.2

  none_in_shape : (e : Expr) → In e (exprs_in (block_shape q)) → HasLeaf (expr_leaf_set e) rel → ⊥
  none_in_shape e k l = elim (from_append e (exprs_in (shape_of whole)) (out-Query q).conds k) [ inl a ↦ sheltered.away e rel a own_number l | inr b ↦ none_above e b l ]

  -- the condition list of a level holds leaves of the level
  on_leaf : (t : JoinTree) (e : Expr) → In e (exprs_of_item t) → HasLeaf (expr_leaf_set e) rel → HasLeaf (tree_leaf_set t) rel
  on_leaf t e k l = subst (λ u. HasLeaf (tree_leaf_set u) rel) (roll-out-JoinTree t) (at (out-JoinTree t) k)
    where
      at : (x : JoinTreeLayer) → In e (exprs_at x) → HasLeaf (tree_leaf_set (roll-JoinTree x)) rel
      at (JoinTree-F.Base r n table) gone = absurd gone
      at (JoinTree-F.Sub r n query) gone = absurd gone
      at (JoinTree-F.From members conds) gone = absurd gone
      at (JoinTree-F.Join kind left right on) p =
          subst (λ t. HasLeaf (tree_leaf_set t) rel) (sym (tree.rolls-Join kind left right on))
          (subst (λ (a : Leaves). HasLeaf a rel) (sym (laws.at-Join Leaves Leaves Leaves Leaves Leaves expr_leaves tree_leaves order_leaves output_leaves query_leaves kind left right on))
          (condition_leaf rel (tree_leaves_level (JoinTree-F.Join kind left right on)) (expr_leaf_set e) (in_map expr_leaf_set e on p) l))

  none_in_on : (e : Expr) → In e (flat_map exprs_of_item (items_of_block q)) → HasLeaf (expr_leaf_set e) rel → ⊥
  none_in_on e k l =
      let f = from_flat_map exprs_of_item e (items_of_block q) k in
      let this = this_item f.0 f.1 (on_leaf f.0 e f.2 l) in
      empty (subst (λ x. In e (exprs_at x)) (ap out-JoinTree (sym this ∙ is) ∙ sym (ap out-JoinTree (tree.rolls-Base rel name table)) ∙ out-roll-JoinTree (JoinTree-F.Base rel name table)) f.2)
    where
      empty : In e (exprs_at (JoinTree-F.Base rel name table)) → ⊥
      empty gone = absurd gone

  pub counted : (e : Expr) → In e (flat_map exprs_of_item (items_of_block q)) ⊎ In e (exprs_in (block_shape q)) → Each IsCountedHere (columns_in e)
  counted e (inl k) = expr_counted e (each_in (there.ExprSomewhere schema bases Good) (flat_map exprs_of_item (items_of_block q)) e (there.on_there schema bases Good s q block) k) (none_in_on e k)
  counted e (inr k) = expr_counted e (each_in (there.ExprSomewhere schema bases Good) (exprs_in (block_shape q)) e (there.shape_exprs_there schema bases Good s q block) k) (none_in_shape e k)
