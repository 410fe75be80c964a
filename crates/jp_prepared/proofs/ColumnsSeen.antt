-- Each column that an expression names at any depth is visible where the expression stands, or its relation is a leaf inside
-- the expression.
use Rattle.std.proofs.Common.{◌≡◌, sym, subst, refl, ℕ, ◌⊎◌, inl, inr, true, List, [], ◌∷◌, ◌++◌}
use Rattle.std.specs.Prelude.{slice_get}
use Rattle.jp_facts.proofs.Members.{In, in_map}
use Rattle.jp_query.specs.declared.Expr.{Expr}
use Rattle.jp_query.specs.declared.JoinTree.{JoinTree}
use Rattle.jp_query.specs.declared.Order.{Order}
use Rattle.jp_query.specs.declared.Output.{Output}
use Rattle.jp_query.specs.declared.Query.{Query}
use Rattle.jp_query.specs.declared.Expr.TheViews.{roll-Expr, roll-JoinTree, roll-Order, roll-Output, roll-Query}
use Rattle.jp_query.specs.declared.Expr.TheFolds.{fold-roll-Expr, fold-roll-JoinTree, fold-roll-Order, fold-roll-Output, fold-roll-Query}
use Rattle.jp_query.specs.Conditions.{Leaves, expr_leaves, tree_leaves, order_leaves, output_leaves, query_leaves, judged_leaves, judged_expr, judged_tree, judged_query, knows_columns, has_type, sees_column}
use Rattle.jp_query.specs.Layers.{ExprLayer, JoinTreeLayer, OrderLayer, OutputLayer, QueryLayer}
use Rattle.jp_query.specs.Parts.{ColumnRef, node_column, option_part, parts, sublink_query, trees, conditions, leaf_query, columns_in, columns_in_query}
use Rattle.jp_query.specs.Scopes.{Column, Schema, Scope, entries_of}
use Rattle.jp_induction.proofs.HandedDown as handed
use Rattle.jp_laws.proofs.EachPart.{Each, each_true, each_weaker, parts_map, sublink_map, trees_map, conditions_map, leaf_map}
use Rattle.jp_laws.proofs.GatheredParts as gather
use Rattle.jp_laws.proofs.JudgedLaws.{judged_order_by, judged_output_by}
use Rattle.jp_laws.proofs.OwnColumns.{column_map}
use Rattle.jp_laws.proofs.TuplesFit.{InEntries, in_either}
use Rattle.jp_folding.proofs.FineDown.{entries_beside, inside, above}
use Rattle.jp_conditions.proofs.Entering.{entry_leaf}
use Rattle.jp_conditions.proofs.Judging.{expr_leaf_set, tree_leaf_set, order_leaf_set, output_leaf_set, leaves_level, tree_leaves_level, query_leaves_level, judged_level, own_columns}
use Rattle.jp_conditions.proofs.Leaves.{HasLeaf, part_leaf, sublink_leaf, tree_leaf, condition_leaf, inner_leaf, column_leaf, from_leaf, where_leaf, order_leaf}
use Rattle.jp_prepared.proofs.Down.{judged_down}
use Rattle.jp_prepared.proofs.Entries.{in_or_not, seen_behind}

module _ {X : Type 0} (P Q : X → Type 0) where
  pub each_among : (xs : List X) → ((x : X) → In x xs → P x → Q x) → Each P xs → Each Q xs
  each_among [] f h = tt
  each_among (x ∷ xs) f h = (f x (inl refl) h.0, each_among xs (λ y m. f y (inr m)) h.1)

abbrev pub SeenIn : Scope → Leaves → ColumnRef → Type 0
SeenIn s leaves c = (sees_column s c ≡ true) ⊎ HasLeaf leaves c.relation

module _ (schema : Schema) where
  abbrev columns_of_tree : JoinTree → List ColumnRef
  columns_of_tree = gather.in_tree ColumnRef node_column

  abbrev columns_of_order : Order → List ColumnRef
  columns_of_order = gather.in_order ColumnRef node_column

  abbrev columns_of_output : Output → List ColumnRef
  columns_of_output = gather.in_output ColumnRef node_column

  abbrev PE : Scope → Expr → Type 0
  PE s x = Each (SeenIn s (expr_leaf_set x)) (columns_in x)

  abbrev PT : Scope → JoinTree → Type 0
  PT s x = Each (SeenIn s (tree_leaf_set x)) (columns_of_tree x)

  abbrev PO : Scope → Order → Type 0
  PO s x = Each (SeenIn s (order_leaf_set x)) (columns_of_order x)

  abbrev PU : Scope → Output → Type 0
  PU s x = Each (SeenIn s (output_leaf_set x)) (columns_of_output x)

  abbrev PQ : Scope → Query → Type 0
  PQ s x = Each (SeenIn s (judged_leaves x)) (columns_in_query x)

  -- seen further in, or among the leaves of a part
  pass : (s : Scope) (part whole : Leaves) (cs : List ColumnRef) → ((rel : ℕ) → HasLeaf part rel → HasLeaf whole rel) → Each (SeenIn s part) cs → Each (SeenIn s whole) cs
  pass s part whole cs f h = each_weaker (SeenIn s part) (SeenIn s whole) (λ c k. elim k [ inl seen ↦ inl seen | inr leaf ↦ inr (f c.relation leaf) ]) cs h

  -- what is seen behind the entries of trees is seen there or is of their leaves
  outwards : (es s : Scope) (part whole : Leaves) (cs : List ColumnRef) → ((rel : ℕ) → InEntries es rel → HasLeaf whole rel) → ((rel : ℕ) → HasLeaf part rel → HasLeaf whole rel) → Each (SeenIn (es ++ s) part) cs → Each (SeenIn s whole) cs
  outwards es s part whole cs entered f h = each_weaker (SeenIn (es ++ s) part) (SeenIn s whole) at cs h
    where
      at : (c : ColumnRef) → SeenIn (es ++ s) part c → SeenIn s whole c
      at c (inr leaf) = inr (f c.relation leaf)
      at c (inl seen) = elim (in_or_not es c.relation) [
        | inl there ↦ inr (entered c.relation there)
        | inr none ↦ inl (subst (λ (columns : List Column). has_type (slice_get columns c.column) c.type ≡ true) (seen_behind es s c.relation none) seen)
      ]

  own_seen : (s : Scope) (x : ExprLayer) (leaves : Leaves) → (judged_expr schema knows_columns (roll-Expr x)).passes s ≡ true → Each (SeenIn s leaves) (node_column (gather.node_level ColumnRef node_column x))
  own_seen s x leaves c =
      let level = judged_level schema knows_columns x in
      let here = each_true (sees_column s) (node_column level) (own_columns schema knows_columns s x c) in
      let plain = subst (Each (λ r. sees_column s r ≡ true)) (column_map (judged_expr schema knows_columns) (judged_tree schema knows_columns) (judged_order_by schema knows_columns) (judged_output_by schema knows_columns) (judged_query schema knows_columns) x) here in
      each_weaker (λ r. sees_column s r ≡ true) (SeenIn s leaves) (λ r k. inl k) (node_column (gather.node_level ColumnRef node_column x))
      (subst (Each (λ r. sees_column s r ≡ true)) (sym (column_map (gather.in_expr ColumnRef node_column) columns_of_tree columns_of_order columns_of_output (gather.in_query ColumnRef node_column) x)) plain)

  expr_step : (s : Scope) (x : ExprLayer) → (judged_expr schema knows_columns (roll-Expr x)).passes s ≡ true → Each (PE s) (parts x) → Each (PQ s) (option_part (sublink_query x)) → PE s (roll-Expr x)
  expr_step s x c exprs queries =
      let level = leaves_level x in
      let whole = expr_leaves level in
      subst (λ l. Each (SeenIn s l) (columns_in (roll-Expr x))) (sym (fold-roll-Expr Leaves Leaves Leaves Leaves Leaves expr_leaves tree_leaves order_leaves output_leaves query_leaves x))
      (gather.expr_made ColumnRef node_column (SeenIn s whole) x (record {
        node = own_seen s x whole c;
        exprs = each_among (PE s) (λ e. Each (SeenIn s whole) (columns_in e)) (parts x) (λ e m h. pass s (expr_leaf_set e) whole (columns_in e) (λ rel l. part_leaf rel level (expr_leaf_set e) (subst (In (expr_leaf_set e)) (sym (parts_map expr_leaf_set tree_leaf_set order_leaf_set output_leaf_set judged_leaves x)) (in_map expr_leaf_set e (parts x) m)) l) h) exprs;
        query = each_among (PQ s) (λ q. Each (SeenIn s whole) (columns_in_query q)) (option_part (sublink_query x)) (λ q m h. pass s (judged_leaves q) whole (columns_in_query q) (λ rel l. sublink_leaf rel level (judged_leaves q) (subst (In (judged_leaves q)) (sym (sublink_map expr_leaf_set tree_leaf_set order_leaf_set output_leaf_set judged_leaves x)) (in_map judged_leaves q (option_part (sublink_query x)) m)) l) h) queries;
      }))

  -- an entry of one of these trees is a leaf of it
  entry_of : (s : Scope) (ts : List JoinTree) (rel : ℕ) → InEntries (entries_beside schema s ts) rel → (t : JoinTree) × In t ts × HasLeaf (tree_leaf_set t) rel
  entry_of s [] rel h = cc
  entry_of s (t ∷ ts) rel h = elim (in_either (entries_of schema t s) (entries_beside schema s ts) rel h) [
    | inl p ↦ (t, inl refl, entry_leaf schema s t rel p)
    | inr p ↦ (let k = entry_of s ts rel p in (k.0, inr k.1, k.2))
  ]

  tree_step : (s : Scope) (x : JoinTreeLayer) → (judged_tree schema knows_columns (roll-JoinTree x)).passes s ≡ true → Each (PT s) (trees x) → Each (PE (inside schema s x)) (conditions x) → Each (PQ s) (option_part (leaf_query x)) → PT s (roll-JoinTree x)
  tree_step s x c sides conds queries =
      let level = tree_leaves_level x in
      let whole = tree_leaves level in
      subst (λ l. Each (SeenIn s l) (columns_of_tree (roll-JoinTree x))) (sym (fold-roll-JoinTree Leaves Leaves Leaves Leaves Leaves expr_leaves tree_leaves order_leaves output_leaves query_leaves x))
      (gather.tree_made ColumnRef node_column (SeenIn s whole) x (record {
        sides = each_among (PT s) (λ t. Each (SeenIn s whole) (columns_of_tree t)) (trees x) (λ t m h. pass s (tree_leaf_set t) whole (columns_of_tree t) (side t m) h) sides;
        conds = each_among (PE (inside schema s x)) (λ e. Each (SeenIn s whole) (columns_in e)) (conditions x) (λ e m h. outwards (entries_beside schema s (trees x)) s (expr_leaf_set e) whole (columns_in e) (λ rel p. let k = entry_of s (trees x) rel p in side k.0 k.1 rel k.2)
            (λ rel l. condition_leaf rel level (expr_leaf_set e) (subst (In (expr_leaf_set e)) (sym (conditions_map expr_leaf_set tree_leaf_set order_leaf_set output_leaf_set judged_leaves x)) (in_map expr_leaf_set e (conditions x) m)) l) h) conds;
        query = each_among (PQ s) (λ q. Each (SeenIn s whole) (columns_in_query q)) (option_part (leaf_query x)) (λ q m h. pass s (judged_leaves q) whole (columns_in_query q) (λ rel l. inner_leaf rel level (judged_leaves q) (subst (In (judged_leaves q)) (sym (leaf_map expr_leaf_set tree_leaf_set order_leaf_set output_leaf_set judged_leaves x)) (in_map judged_leaves q (option_part (leaf_query x)) m)) l) h) queries;
      }))
    where
      side : (t : JoinTree) → In t (trees x) → (rel : ℕ) → HasLeaf (tree_leaf_set t) rel → HasLeaf (tree_leaves (tree_leaves_level x)) rel
      side t m rel l = tree_leaf rel (tree_leaves_level x) (tree_leaf_set t) (subst (In (tree_leaf_set t)) (sym (trees_map expr_leaf_set tree_leaf_set order_leaf_set output_leaf_set judged_leaves x)) (in_map tree_leaf_set t (trees x) m)) l

  query_step : (s : Scope) (q : QueryLayer) → (judged_query schema knows_columns (roll-Query q)).passes s ≡ true → Each (PU (above schema s q)) q.columns → PT s q.tree → Each (PE (above schema s q)) q.conds → Each (PO (above schema s q)) q.order → PQ s (roll-Query q)
  query_step s q c columns tree conds order =
      let level = query_leaves_level q in
      let whole = query_leaves level in
      let es = entries_of schema q.tree s in
      subst (λ l. Each (SeenIn s l) (columns_in_query (roll-Query q))) (sym (fold-roll-Query Leaves Leaves Leaves Leaves Leaves expr_leaves tree_leaves order_leaves output_leaves query_leaves q))
      (gather.query_made ColumnRef node_column (SeenIn s whole) q (record {
        columns = each_among (PU (es ++ s)) (λ u. Each (SeenIn s whole) (columns_of_output u)) q.columns (λ u m h. outwards es s (output_leaf_set u) whole (columns_of_output u) entered (λ rel l. column_leaf rel level (output_leaf_set u) (in_map output_leaf_set u q.columns m) l) h) columns;
        tree = pass s (tree_leaf_set q.tree) whole (columns_of_tree q.tree) (λ rel l. from_leaf rel level l) tree;
        conds = each_among (PE (es ++ s)) (λ e. Each (SeenIn s whole) (columns_in e)) q.conds (λ e m h. outwards es s (expr_leaf_set e) whole (columns_in e) entered (λ rel l. where_leaf rel level (expr_leaf_set e) (in_map expr_leaf_set e q.conds m) l) h) conds;
        order = each_among (PO (es ++ s)) (λ o. Each (SeenIn s whole) (columns_of_order o)) q.order (λ o m h. outwards es s (order_leaf_set o) whole (columns_of_order o) entered (λ rel l. order_leaf rel level (order_leaf_set o) (in_map order_leaf_set o q.order m) l) h) order;
      }))
    where
      entered : (rel : ℕ) → InEntries (entries_of schema q.tree s) rel → HasLeaf (query_leaves (query_leaves_level q)) rel
      entered rel p = from_leaf rel (query_leaves_level q) (entry_leaf schema s q.tree rel p)

  order_step : (s : Scope) (o : OrderLayer) → (judged_order_by schema knows_columns (roll-Order o)).passes s ≡ true → PE s o.expr → PO s (roll-Order o)
  order_step s o c h =
      subst (λ l. Each (SeenIn s l) (columns_of_order (roll-Order o))) (sym (fold-roll-Order Leaves Leaves Leaves Leaves Leaves expr_leaves tree_leaves order_leaves output_leaves query_leaves o)) (gather.order_made ColumnRef node_column (SeenIn s (expr_leaf_set o.expr)) o h)

  output_step : (s : Scope) (u : OutputLayer) → (judged_output_by schema knows_columns (roll-Output u)).passes s ≡ true → PE s u.expr → PU s (roll-Output u)
  output_step s u c h =
      subst (λ l. Each (SeenIn s l) (columns_of_output (roll-Output u))) (sym (fold-roll-Output Leaves Leaves Leaves Leaves Leaves expr_leaves tree_leaves order_leaves output_leaves query_leaves u)) (gather.output_made ColumnRef node_column (SeenIn s (expr_leaf_set u.expr)) u h)

  abbrev knows : Scope → Expr → Type 0
  knows s x = (judged_expr schema knows_columns x).passes s ≡ true

  steps : handed.StepsUnder Scope (inside schema) (above schema) knows (λ s x. (judged_tree schema knows_columns x).passes s ≡ true) (λ s x. (judged_order_by schema knows_columns x).passes s ≡ true) (λ s x. (judged_output_by schema knows_columns x).passes s ≡ true) (λ s x. (judged_query schema knows_columns x).passes s ≡ true) (judged_down schema knows_columns) PE PT PO PU PQ
  steps = record { expr = expr_step; tree = tree_step; order = order_step; output = output_step; query = query_step }

  pub columns_seen : (s : Scope) (e : Expr) → (judged_expr schema knows_columns e).passes s ≡ true → Each (SeenIn s (expr_leaf_set e)) (columns_in e)
  columns_seen s e h =
      handed.under_expr Scope (inside schema) (above schema) knows (λ s x. (judged_tree schema knows_columns x).passes s ≡ true) (λ s x. (judged_order_by schema knows_columns x).passes s ≡ true) (λ s x. (judged_output_by schema knows_columns x).passes s ≡ true) (λ s x. (judged_query schema knows_columns x).passes s ≡ true) (judged_down schema knows_columns) PE PT PO PU PQ steps e s h
