-- A folded tree has the entries that it had, with columns of the same types, if in another order; a folded query's columns
-- have the types that they had.
use Rattle.std.proofs.Common.{◌≡◌, ◌∙◌, ap, sym, subst, List, [], ◌∷◌, ◌++◌, map}
use Rattle.std.specs.List.{flat_map}
use Rattle.jp_query.specs.declared.JoinKind.{JoinKind}
use Rattle.jp_query.specs.declared.JoinKind.TheVariants as join
use Rattle.jp_query.specs.declared.Expr.{Expr}
use Rattle.jp_query.specs.declared.JoinTree.{JoinTree}
use Rattle.jp_query.specs.declared.Order.{Order}
use Rattle.jp_query.specs.declared.Output.{Output}
use Rattle.jp_query.specs.declared.Query.{Query}
use Rattle.jp_query.specs.declared.Expr.TheOpen.{JoinTree-F}
use Rattle.jp_query.specs.declared.Expr.TheViews.{roll-JoinTree, roll-Order, roll-Output, roll-Query}
use Rattle.jp_query.specs.declared.Expr.TheFolds.{fold-Order, fold-Output, map-JoinTree, fold-roll-JoinTree, fold-roll-Output, fold-roll-Query}
use Rattle.jp_query.specs.Layers.{JoinTreeLayer, OutputLayer, QueryLayer}
use Rattle.jp_query.specs.Parts.{option_part, trees, leaf_query}
use Rattle.jp_query.specs.Scopes.{Column, Schema, Scope, BoundIn, EntriesIn, ColumnIn, ColumnsIn, in_scope, expr_bound, tree_entries, order_bound, output_column, query_columns, join_entries, bound_of, entries_of, columns_of_query}
use Rattle.jp_laws.proofs.EachPart.{Each}
use Rattle.jp_folding.specs.Folding as fold
use Rattle.jp_folding.proofs.FineDown.{entries_beside}
use Rattle.jp_folding.proofs.TypeLaws.{folded_output, tree_parts_folded, query_parts_folded}
use Rattle.jp_folded.proofs.ScopeLaws as scopes

module _ (schema : Schema) where
  abbrev order_of : Order → BoundIn
  order_of = fold-Order BoundIn EntriesIn BoundIn ColumnIn ColumnsIn expr_bound (tree_entries schema) order_bound output_column query_columns

  abbrev pub column_of : Output → ColumnIn
  column_of = fold-Output BoundIn EntriesIn BoundIn ColumnIn ColumnsIn expr_bound (tree_entries schema) order_bound output_column query_columns

  abbrev level : JoinTreeLayer → JoinTree-F BoundIn EntriesIn BoundIn ColumnIn ColumnsIn
  level = map-JoinTree Expr JoinTree Order Output Query BoundIn EntriesIn BoundIn ColumnIn ColumnsIn (bound_of schema) (entries_of schema) order_of column_of (columns_of_query schema)

  entries_at : (t : JoinTreeLayer) → entries_of schema (roll-JoinTree t) ≡ tree_entries schema (level t)
  entries_at = fold-roll-JoinTree BoundIn EntriesIn BoundIn ColumnIn ColumnsIn expr_bound (tree_entries schema) order_bound output_column query_columns

  pub column_at : (u : OutputLayer) (s : Scope) → column_of (roll-Output u) s ≡ record { type = u.ty; bound = bound_of schema u.expr s }
  column_at u s = ap (λ (f : ColumnIn). f s) (fold-roll-Output BoundIn EntriesIn BoundIn ColumnIn ColumnsIn expr_bound (tree_entries schema) order_bound output_column query_columns u)

  abbrev columns_beside : Scope → List Output → List Column
  columns_beside inner us = map (in_scope inner) (map column_of us)

  columns_at : (q : QueryLayer) (s : Scope) → columns_of_query schema (roll-Query q) s ≡ columns_beside (entries_of schema q.tree s ++ s) q.columns
  columns_at q s = ap (λ (f : ColumnsIn). f s) (fold-roll-Query BoundIn EntriesIn BoundIn ColumnIn ColumnsIn expr_bound (tree_entries schema) order_bound output_column query_columns q)

  pub folded_at : (t : JoinTreeLayer) → fold.folded_tree (roll-JoinTree t) ≡ fold.tree_folded (tree_parts_folded t)
  folded_at = fold-roll-JoinTree Expr JoinTree Order Output Query fold.expr_folded fold.tree_folded roll-Order roll-Output fold.query_folded

  abbrev pub query_made : QueryLayer → QueryLayer
  query_made q = record (query_parts_folded q) { conds = fold.conditions_folded (map fold.folded_expr q.conds) }

  pub folded_query_at : (q : QueryLayer) → fold.folded (roll-Query q) ≡ roll-Query (query_made q)
  folded_query_at = fold-roll-Query Expr JoinTree Order Output Query fold.expr_folded fold.tree_folded roll-Order roll-Output fold.query_folded

  module _ (R : Column → Column → Type 0) (same : (c : Column) → R c c) (s' s : Scope) where
    abbrev pub TreeBelow : JoinTree → Type 0
    TreeBelow t = scopes.Below R (entries_of schema (fold.folded_tree t) s') (entries_of schema t s)

    abbrev pub QueryAlike : Query → Type 0
    QueryAlike q = scopes.AreAlike R (columns_of_query schema (fold.folded q) s') (columns_of_query schema q s)

    join_below : (kind : JoinKind) (left right : JoinTree) → TreeBelow left → TreeBelow right → scopes.Below R (join_entries kind (entries_of schema (fold.folded_tree left) s') (entries_of schema (fold.folded_tree right) s')) (join_entries kind (entries_of schema left s) (entries_of schema right s))
    join_below join.Semi left right h k = h
    join_below join.Anti left right h k = h
    join_below kind left right h k = scopes.below_append R (entries_of schema (fold.folded_tree left) s') (entries_of schema left s) (entries_of schema (fold.folded_tree right) s') (entries_of schema right s) h k

    from_below : (members : List JoinTree) → Each TreeBelow members → scopes.Below R (flat_map (in_scope s') (map (entries_of schema) (map fold.folded_tree members))) (flat_map (in_scope s) (map (entries_of schema) members))
    from_below [] h = scopes.below_none R
    from_below (t ∷ members) h = scopes.below_append R (entries_of schema (fold.folded_tree t) s') (entries_of schema t s) (flat_map (in_scope s') (map (entries_of schema) (map fold.folded_tree members))) (flat_map (in_scope s) (map (entries_of schema) members)) h.0 (from_below members h.1)

    pub beside_below : (ts : List JoinTree) → Each TreeBelow ts → scopes.Below R (entries_beside schema s' (map fold.folded_tree ts)) (entries_beside schema s ts)
    beside_below [] h = scopes.below_none R
    beside_below (t ∷ ts) h = scopes.below_append R (entries_of schema (fold.folded_tree t) s') (entries_of schema t s) (entries_beside schema s' (map fold.folded_tree ts)) (entries_beside schema s ts) h.0 (beside_below ts h.1)

    abbrev Made : JoinTreeLayer → Type 0
    Made t = scopes.Below R (entries_of schema (fold.tree_folded (tree_parts_folded t)) s') (entries_of schema (roll-JoinTree t) s)

    made : (t : JoinTreeLayer) → Each TreeBelow (trees t) → Each QueryAlike (option_part (leaf_query t)) → Made t
    made (JoinTree-F.Base rel name table) ts qs = subst (λ (e : EntriesIn). scopes.Below R (e s') (e s)) (sym (entries_at (JoinTree-F.Base rel name table))) (scopes.below_itself R same _)
    made (JoinTree-F.Sub rel name query) ts qs =
        subst (λ (e : EntriesIn). scopes.Below R (e s') (entries_of schema (roll-JoinTree (JoinTree-F.Sub rel name query)) s)) (sym (entries_at (JoinTree-F.Sub rel name (fold.folded query))))
        (subst (λ (e : EntriesIn). scopes.Below R (tree_entries schema (level (JoinTree-F.Sub rel name (fold.folded query))) s') (e s)) (sym (entries_at (JoinTree-F.Sub rel name query)))
        (scopes.below_one R rel (columns_of_query schema (fold.folded query) s') (columns_of_query schema query s) qs.0))
    made (JoinTree-F.Join join.Right left right on) ts qs =
        subst (λ (e : EntriesIn). scopes.Below R (e s') (entries_of schema (roll-JoinTree (JoinTree-F.Join join.Right left right on)) s)) (sym (entries_at (JoinTree-F.Join join.Left (fold.folded_tree right) (fold.folded_tree left) (fold.conditions_folded (map fold.folded_expr on)))))
        (subst (λ (e : EntriesIn). scopes.Below R (entries_of schema (fold.folded_tree right) s' ++ entries_of schema (fold.folded_tree left) s') (e s)) (sym (entries_at (JoinTree-F.Join join.Right left right on)))
        (scopes.below_crossed R (entries_of schema (fold.folded_tree left) s') (entries_of schema left s) (entries_of schema (fold.folded_tree right) s') (entries_of schema right s) ts.0 ts.1.0))
    made (JoinTree-F.Join kind left right on) ts qs =
        subst (λ (e : EntriesIn). scopes.Below R (e s') (entries_of schema (roll-JoinTree (JoinTree-F.Join kind left right on)) s)) (sym (entries_at (JoinTree-F.Join kind (fold.folded_tree left) (fold.folded_tree right) (fold.conditions_folded (map fold.folded_expr on)))))
        (subst (λ (e : EntriesIn). scopes.Below R (join_entries kind (entries_of schema (fold.folded_tree left) s') (entries_of schema (fold.folded_tree right) s')) (e s)) (sym (entries_at (JoinTree-F.Join kind left right on)))
        (join_below kind left right ts.0 ts.1.0))
    made (JoinTree-F.From members conds) ts qs =
        subst (λ (e : EntriesIn). scopes.Below R (e s') (entries_of schema (roll-JoinTree (JoinTree-F.From members conds)) s)) (sym (entries_at (JoinTree-F.From (map fold.folded_tree members) (fold.conditions_folded (map fold.folded_expr conds)))))
        (subst (λ (e : EntriesIn). scopes.Below R (flat_map (in_scope s') (map (entries_of schema) (map fold.folded_tree members))) (e s)) (sym (entries_at (JoinTree-F.From members conds)))
        (from_below members ts))

    -- a tree's entries, where its parts' are so
    pub tree_below : (t : JoinTreeLayer) → Each TreeBelow (trees t) → Each QueryAlike (option_part (leaf_query t)) → TreeBelow (roll-JoinTree t)
    tree_below t ts qs = subst (λ (x : JoinTree). scopes.Below R (entries_of schema x s') (entries_of schema (roll-JoinTree t) s)) (sym (folded_at t)) (made t ts qs)

    columns_alike : (inner' inner : Scope) (us : List Output) → Each (λ u. R (column_of (folded_output u) inner') (column_of u inner)) us → scopes.AreAlike R (columns_beside inner' (map folded_output us)) (columns_beside inner us)
    columns_alike inner' inner [] h = tt
    columns_alike inner' inner (u ∷ us) h = (h.0, columns_alike inner' inner us h.1)

    -- a query's columns, where its outputs' are so
    pub query_alike : (q : QueryLayer) → Each (λ u. R (column_of (folded_output u) (entries_of schema (fold.folded_tree q.tree) s' ++ s')) (column_of u (entries_of schema q.tree s ++ s))) q.columns → QueryAlike (roll-Query q)
    query_alike q us =
        subst (λ (x : Query). scopes.AreAlike R (columns_of_query schema x s') (columns_of_query schema (roll-Query q) s)) (sym (folded_query_at q))
        (subst (λ cs. scopes.AreAlike R cs (columns_of_query schema (roll-Query q) s)) (sym (columns_at (query_made q) s'))
        (subst (scopes.AreAlike R (columns_beside (entries_of schema (fold.folded_tree q.tree) s' ++ s') (map folded_output q.columns))) (sym (columns_at q s))
        (columns_alike (entries_of schema (fold.folded_tree q.tree) s' ++ s') (entries_of schema q.tree s ++ s) q.columns us)))

  pub folded_output_at : (u : OutputLayer) → folded_output (roll-Output u) ≡ roll-Output (record { name = u.name; ty = u.ty; expr = fold.folded_expr u.expr })
  folded_output_at = fold-roll-Output Expr JoinTree Order Output Query fold.expr_folded fold.tree_folded roll-Order roll-Output fold.query_folded

  -- ---- types alone

  abbrev pub HasSameType : Column → Column → Type 0
  HasSameType c d = c.type ≡ d.type

  pub type_kept : (u : OutputLayer) (s' s : Scope) → HasSameType (column_of (folded_output (roll-Output u)) s') (column_of (roll-Output u) s)
  type_kept u s' s = ap (λ (v : Output). (column_of v s').type) (folded_output_at u) ∙ ap (λ (c : Column). c.type) (column_at (record { name = u.name; ty = u.ty; expr = fold.folded_expr u.expr }) s') ∙ sym (ap (λ (c : Column). c.type) (column_at u s))
