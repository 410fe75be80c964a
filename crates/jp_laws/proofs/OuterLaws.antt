-- Where relations that are visible at one place have distinct numbers, a query's own leaves have none of the outer ones,
-- so of its columns only the outer references are visible outside.
use Rattle.std.proofs.Common.{◌≡◌, ◌∙◌, ap, sym, subst, refl, ℕ, inl, inr, Bool, true, false, cond, not, ◌||◌, List, [], ◌∷◌, ◌++◌, map, filter, eq-eqb, append_assoc}
use Rattle.std.specs.Prelude.{◌==◌, slice_get, if◌then◌else◌}
use Rattle.std.specs.List.{list_any}
use Rattle.std.proofs.lemmas.Bool.{cases_eq}
use Rattle.jp_query.specs.declared.Expr.{Expr}
use Rattle.jp_query.specs.declared.JoinTree.{JoinTree}
use Rattle.jp_query.specs.declared.Order.{Order}
use Rattle.jp_query.specs.declared.Output.{Output}
use Rattle.jp_query.specs.declared.Query.{Query}
use Rattle.jp_query.specs.declared.Expr.TheOpen.{Expr-F, JoinTree-F, Order-F, Output-F, Query-F}
use Rattle.jp_query.specs.declared.Expr.TheViews.{roll-Expr, roll-JoinTree, roll-Order, roll-Output, roll-Query}
use Rattle.jp_query.specs.declared.Expr.TheFolds.{fold-Order, fold-Output, map-Expr, map-JoinTree, map-Order, map-Output, map-Query, ind-Query, fold-roll-Expr, fold-roll-JoinTree, fold-roll-Order, fold-roll-Output, fold-roll-Query}
use Rattle.jp_query.specs.Meaning.{Env, cell_in}
use Rattle.jp_query.specs.Parts.{all_in, option_part, parts, sublink_query, trees, conditions, leaf_query, ColumnRef, nothing_of_node, leaf_number, expr_gives, tree_gives, order_gives, output_gives, query_gives, gathered, gathered_in_tree, leaves_in, is_outside}
use Rattle.jp_query.specs.Scopes.{Column, Schema, Entry, Scope, BoundIn, EntriesIn, ColumnIn, ColumnsIn, visible_columns, expr_bound, tree_entries, order_bound, output_column, query_columns, bound_of, entries_of, columns_of_query}
use Rattle.jp_query.specs.Conditions.{Judged, relation_of, are_distinct, all_entries, expr_judged, tree_judged, order_judged, output_judged, query_judged, judged_expr, tells_relations_apart, judged_tree, judged_query}
use Rattle.jp_query.specs.Fitting.{IsCellOfSome, IsCellAt, is_entry}
use Rattle.std.proofs.lemmas.Bool.{ne_eqb}
use Rattle.jp_laws.proofs.ValueLaws.{and_left}
use Rattle.jp_laws.proofs.EachPart.{Each, each_append, each_weaker, each_in_parts, parts_map, sublink_map, trees_map, conditions_map, leaf_map}
use Rattle.jp_laws.proofs.JudgedLaws.{expr_passes, TreePasses, tree_passed, QueryPasses, query_passed, judged_order_by, judged_output_by}
use Rattle.jp_laws.proofs.JudgedValues.{entries_judged}
use Rattle.jp_laws.proofs.TuplesFit.{InEntries, not_true, in_left, in_right, distinct_ends, apart_later}

abbrev pub NotIn : Scope → ℕ → Type 0
NotIn outer n = InEntries outer n → ⊥

not_inner : (entries outer : Scope) (n : ℕ) → NotIn (entries ++ outer) n → NotIn outer n
not_inner entries outer n h p = h (in_right entries outer n p)

module _ (schema : Schema) where
  abbrev judged_e : Expr → Judged ℕ
  judged_e = judged_expr schema tells_relations_apart

  abbrev judged_t : JoinTree → Judged (List Entry)
  judged_t = judged_tree schema tells_relations_apart

  abbrev judged_o : Order → Judged ℕ
  judged_o = judged_order_by schema tells_relations_apart

  abbrev judged_u : Output → Judged Column
  judged_u = judged_output_by schema tells_relations_apart

  abbrev judged_q : Query → Judged (List Column)
  judged_q = judged_query schema tells_relations_apart

  abbrev in_expr : Expr → List ℕ
  in_expr = gathered ℕ nothing_of_node leaf_number

  abbrev in_tree : JoinTree → List ℕ
  in_tree = gathered_in_tree ℕ nothing_of_node leaf_number

  abbrev in_order : Order → List ℕ
  in_order = fold-Order (List ℕ) (List ℕ) (List ℕ) (List ℕ) (List ℕ) (expr_gives ℕ nothing_of_node leaf_number) (tree_gives ℕ nothing_of_node leaf_number) (order_gives ℕ nothing_of_node leaf_number) (output_gives ℕ nothing_of_node leaf_number) (query_gives ℕ nothing_of_node leaf_number)

  abbrev in_output : Output → List ℕ
  in_output = fold-Output (List ℕ) (List ℕ) (List ℕ) (List ℕ) (List ℕ) (expr_gives ℕ nothing_of_node leaf_number) (tree_gives ℕ nothing_of_node leaf_number) (order_gives ℕ nothing_of_node leaf_number) (output_gives ℕ nothing_of_node leaf_number) (query_gives ℕ nothing_of_node leaf_number)

  abbrev GoodExpr : Expr → Type 0
  GoodExpr x = (scope : Scope) → (judged_e x).passes scope ≡ true → Each (NotIn scope) (in_expr x)

  -- a tree whose entries are told apart from the outer ones, as each place that sees them says
  abbrev GoodTree : JoinTree → Type 0
  GoodTree x = (scope : Scope) → (judged_t x).passes scope ≡ true → are_distinct (map relation_of (entries_of schema x scope ++ scope)) ≡ true → Each (NotIn scope) (in_tree x)

  abbrev GoodOrder : Order → Type 0
  GoodOrder x = (scope : Scope) → (judged_o x).passes scope ≡ true → Each (NotIn scope) (in_order x)

  abbrev GoodOutput : Output → Type 0
  GoodOutput x = (scope : Scope) → (judged_u x).passes scope ≡ true → Each (NotIn scope) (in_output x)

  abbrev GoodQuery : Query → Type 0
  GoodQuery x = (scope : Scope) → (judged_q x).passes scope ≡ true → Each (NotIn scope) (leaves_in x)

  abbrev E : Type 0
  E = (x : Expr) × GoodExpr x

  abbrev T : Type 0
  T = (x : JoinTree) × GoodTree x

  abbrev O : Type 0
  O = (x : Order) × GoodOrder x

  abbrev U : Type 0
  U = (x : Output) × GoodOutput x

  abbrev Q : Type 0
  Q = (x : Query) × GoodQuery x

  abbrev bare_e : E → Expr
  bare_e y = y.0

  abbrev bare_t : T → JoinTree
  bare_t y = y.0

  abbrev bare_o : O → Order
  bare_o y = y.0

  abbrev bare_u : U → Output
  bare_u y = y.0

  abbrev bare_q : Q → Query
  bare_q y = y.0

  abbrev bare_expr : Expr-F E T O U Q → Expr-F Expr JoinTree Order Output Query
  bare_expr = map-Expr E T O U Q Expr JoinTree Order Output Query bare_e bare_t bare_o bare_u bare_q

  abbrev bare_tree : JoinTree-F E T O U Q → JoinTree-F Expr JoinTree Order Output Query
  bare_tree = map-JoinTree E T O U Q Expr JoinTree Order Output Query bare_e bare_t bare_o bare_u bare_q

  abbrev bare_order : Order-F E T O U Q → Order-F Expr JoinTree Order Output Query
  bare_order = map-Order E T O U Q Expr JoinTree Order Output Query bare_e bare_t bare_o bare_u bare_q

  abbrev bare_output : Output-F E T O U Q → Output-F Expr JoinTree Order Output Query
  bare_output = map-Output E T O U Q Expr JoinTree Order Output Query bare_e bare_t bare_o bare_u bare_q

  abbrev bare_query : Query-F E T O U Q → Query-F Expr JoinTree Order Output Query
  bare_query = map-Query E T O U Q Expr JoinTree Order Output Query bare_e bare_t bare_o bare_u bare_q

  module _ (scope : Scope) where
    of_exprs : (ys : List E) → Each (λ (j : Judged ℕ). j.passes scope ≡ true) (map judged_e (map bare_e ys)) → Each (Each (NotIn scope)) (map in_expr (map bare_e ys))
    of_exprs [] h = tt
    of_exprs (y ∷ ys) h = (y.1 scope h.0, of_exprs ys h.1)

    of_queries : (ys : List Q) → Each (λ (j : Judged (List Column)). j.passes scope ≡ true) (map judged_q (map bare_q ys)) → Each (Each (NotIn scope)) (map leaves_in (map bare_q ys))
    of_queries [] h = tt
    of_queries (y ∷ ys) h = (y.1 scope h.0, of_queries ys h.1)

    of_outputs : (ys : List U) → Each (λ (j : Judged Column). j.passes scope ≡ true) (map judged_u (map bare_u ys)) → Each (Each (NotIn scope)) (map in_output (map bare_u ys))
    of_outputs [] h = tt
    of_outputs (y ∷ ys) h = (y.1 scope h.0, of_outputs ys h.1)

    of_orders : (ys : List O) → Each (λ (j : Judged ℕ). j.passes scope ≡ true) (map judged_o (map bare_o ys)) → Each (Each (NotIn scope)) (map in_order (map bare_o ys))
    of_orders [] h = tt
    of_orders (y ∷ ys) h = (y.1 scope h.0, of_orders ys h.1)

    of_trees : (ys : List T) → Each (λ (j : Judged (List Entry)). j.passes scope ≡ true) (map judged_t (map bare_t ys)) → are_distinct (map relation_of (all_entries (map judged_t (map bare_t ys)) scope ++ scope)) ≡ true → Each (Each (NotIn scope)) (map in_tree (map bare_t ys))
    of_trees [] h d = tt
    of_trees (y ∷ ys) h d =
        let rest = all_entries (map judged_t (map bare_t ys)) scope in
        let here = (judged_t y.0).value scope in
        let d' = subst (λ es. are_distinct (map relation_of es) ≡ true) (append_assoc here rest scope) d in
        (y.1 scope h.0 (subst (λ (e : EntriesIn). are_distinct (map relation_of (e scope ++ scope)) ≡ true) (entries_judged schema tells_relations_apart y.0) (distinct_ends here rest scope d')), of_trees ys h.1 (apart_later here (rest ++ scope) d'))

    all_good : (xss : List (List ℕ)) → Each (Each (NotIn scope)) xss → Each (NotIn scope) (all_in xss)
    all_good xss h = each_in_parts (NotIn scope) xss h

  -- what isn't visible inside isn't visible outside
  outwards : (entries outer : Scope) (ns : List ℕ) → Each (NotIn (entries ++ outer)) ns → Each (NotIn outer) ns
  outwards entries outer ns h = each_weaker (NotIn (entries ++ outer)) (NotIn outer) (not_inner entries outer) ns h

  abbrev judged_expr_level : Expr-F Expr JoinTree Order Output Query → Expr-F (Judged ℕ) (Judged (List Entry)) (Judged ℕ) (Judged Column) (Judged (List Column))
  judged_expr_level = map-Expr Expr JoinTree Order Output Query (Judged ℕ) (Judged (List Entry)) (Judged ℕ) (Judged Column) (Judged (List Column)) judged_e judged_t judged_o judged_u judged_q

  abbrev in_expr_level : Expr-F Expr JoinTree Order Output Query → Expr-F (List ℕ) (List ℕ) (List ℕ) (List ℕ) (List ℕ)
  in_expr_level = map-Expr Expr JoinTree Order Output Query (List ℕ) (List ℕ) (List ℕ) (List ℕ) (List ℕ) in_expr in_tree in_order in_output leaves_in

  expr_good : (y : Expr-F E T O U Q) (scope : Scope) → (expr_judged schema tells_relations_apart (judged_expr_level (bare_expr y))).passes scope ≡ true → Each (NotIn scope) (expr_gives ℕ nothing_of_node leaf_number (in_expr_level (bare_expr y)))
  expr_good y scope h =
      let x = bare_expr y in
      let good = expr_passes schema tells_relations_apart scope (judged_expr_level x) h in
      let at_parts = parts_map bare_e bare_t bare_o bare_u bare_q y in
      let at_query = sublink_map bare_e bare_t bare_o bare_u bare_q y in
      let ps = of_exprs scope (parts y) (subst (Each (λ (j : Judged ℕ). j.passes scope ≡ true)) (parts_map judged_e judged_t judged_o judged_u judged_q x ∙ ap (map judged_e) at_parts) good.parts) in
      let qs = of_queries scope (option_part (sublink_query y)) (subst (Each (λ (j : Judged (List Column)). j.passes scope ≡ true)) (sublink_map judged_e judged_t judged_o judged_u judged_q x ∙ ap (map judged_q) at_query) good.sublinks) in
      each_append (NotIn scope) (all_in (parts (in_expr_level x))) (all_in (option_part (sublink_query (in_expr_level x))))
      (all_good scope (parts (in_expr_level x)) (subst (Each (Each (NotIn scope))) (sym (parts_map in_expr in_tree in_order in_output leaves_in x ∙ ap (map in_expr) at_parts)) ps))
      (all_good scope (option_part (sublink_query (in_expr_level x))) (subst (Each (Each (NotIn scope))) (sym (sublink_map in_expr in_tree in_order in_output leaves_in x ∙ ap (map leaves_in) at_query)) qs))

  abbrev judged_tree_level : JoinTree-F Expr JoinTree Order Output Query → JoinTree-F (Judged ℕ) (Judged (List Entry)) (Judged ℕ) (Judged Column) (Judged (List Column))
  judged_tree_level = map-JoinTree Expr JoinTree Order Output Query (Judged ℕ) (Judged (List Entry)) (Judged ℕ) (Judged Column) (Judged (List Column)) judged_e judged_t judged_o judged_u judged_q

  abbrev in_tree_level : JoinTree-F Expr JoinTree Order Output Query → JoinTree-F (List ℕ) (List ℕ) (List ℕ) (List ℕ) (List ℕ)
  in_tree_level = map-JoinTree Expr JoinTree Order Output Query (List ℕ) (List ℕ) (List ℕ) (List ℕ) (List ℕ) in_expr in_tree in_order in_output leaves_in

  abbrev entries_level : JoinTree-F Expr JoinTree Order Output Query → JoinTree-F BoundIn EntriesIn BoundIn ColumnIn ColumnsIn
  entries_level = map-JoinTree Expr JoinTree Order Output Query BoundIn EntriesIn BoundIn ColumnIn ColumnsIn (bound_of schema) (entries_of schema)
      (fold-Order BoundIn EntriesIn BoundIn ColumnIn ColumnsIn expr_bound (tree_entries schema) order_bound output_column query_columns)
      (fold-Output BoundIn EntriesIn BoundIn ColumnIn ColumnsIn expr_bound (tree_entries schema) order_bound output_column query_columns)
      (columns_of_query schema)

  -- the number of a leaf itself
  leaf_apart : (y : JoinTree-F E T O U Q) (scope : Scope) → are_distinct (map relation_of (entries_of schema (roll-JoinTree (bare_tree y)) scope ++ scope)) ≡ true → Each (NotIn scope) (leaf_number (in_tree_level (bare_tree y)))
  leaf_apart y scope d = at y (subst (λ (e : EntriesIn). are_distinct (map relation_of (e scope ++ scope)) ≡ true) (fold-roll-JoinTree BoundIn EntriesIn BoundIn ColumnIn ColumnsIn expr_bound (tree_entries schema) order_bound output_column query_columns (bare_tree y)) d)
    where
      at : (z : JoinTree-F E T O U Q) → are_distinct (map relation_of (tree_entries schema (entries_level (bare_tree z)) scope ++ scope)) ≡ true → Each (NotIn scope) (leaf_number (in_tree_level (bare_tree z)))
      at (JoinTree-F.Base rel name table) h = (not_true (is_entry scope rel) (and_left (not (is_entry scope rel)) (are_distinct (map relation_of scope)) h), tt)
      at (JoinTree-F.Sub rel name query) h = (not_true (is_entry scope rel) (and_left (not (is_entry scope rel)) (are_distinct (map relation_of scope)) h), tt)
      at (JoinTree-F.Join kind left right on) h = tt
      at (JoinTree-F.From members conds) h = tt

  tree_good : (y : JoinTree-F E T O U Q) (scope : Scope) → TreePasses schema tells_relations_apart scope (judged_tree_level (bare_tree y)) → are_distinct (map relation_of (entries_of schema (roll-JoinTree (bare_tree y)) scope ++ scope)) ≡ true
      → Each (NotIn scope) (tree_gives ℕ nothing_of_node leaf_number (in_tree_level (bare_tree y)))
  tree_good y scope good d =
      let x = bare_tree y in
      let level = in_tree_level x in
      let seen = all_entries (trees (judged_tree_level x)) scope in
      let at_trees = trees_map bare_e bare_t bare_o bare_u bare_q y in
      let at_conds = conditions_map bare_e bare_t bare_o bare_u bare_q y in
      let at_query = leaf_map bare_e bare_t bare_o bare_u bare_q y in
      let to_trees = trees_map judged_e judged_t judged_o judged_u judged_q x ∙ ap (map judged_t) at_trees in
      let ts = of_trees scope (trees y) (subst (Each (λ (j : Judged (List Entry)). j.passes scope ≡ true)) to_trees good.inner) (subst (λ js. are_distinct (map relation_of (all_entries js scope ++ scope)) ≡ true) to_trees good.place) in
      let cs = of_exprs (seen ++ scope) (conditions y) (subst (Each (λ (j : Judged ℕ). j.passes (seen ++ scope) ≡ true)) (conditions_map judged_e judged_t judged_o judged_u judged_q x ∙ ap (map judged_e) at_conds) good.conds) in
      let qs = of_queries scope (option_part (leaf_query y)) (subst (Each (λ (j : Judged (List Column)). j.passes scope ≡ true)) (leaf_map judged_e judged_t judged_o judged_u judged_q x ∙ ap (map judged_q) at_query) good.leaf) in
      each_append (NotIn scope) (leaf_number level) (all_in (trees level) ++ (all_in (conditions level) ++ all_in (option_part (leaf_query level)))) (leaf_apart y scope d)
      (each_append (NotIn scope) (all_in (trees level)) (all_in (conditions level) ++ all_in (option_part (leaf_query level))) (all_good scope (trees level) (subst (Each (Each (NotIn scope))) (sym (trees_map in_expr in_tree in_order in_output leaves_in x ∙ ap (map in_tree) at_trees)) ts))
      (each_append (NotIn scope) (all_in (conditions level)) (all_in (option_part (leaf_query level)))
      (outwards seen scope (all_in (conditions level)) (all_good (seen ++ scope) (conditions level) (subst (Each (Each (NotIn (seen ++ scope)))) (sym (conditions_map in_expr in_tree in_order in_output leaves_in x ∙ ap (map in_expr) at_conds)) cs)))
      (all_good scope (option_part (leaf_query level)) (subst (Each (Each (NotIn scope))) (sym (leaf_map in_expr in_tree in_order in_output leaves_in x ∙ ap (map leaves_in) at_query)) qs))))

  abbrev judged_query_level : Query-F Expr JoinTree Order Output Query → Query-F (Judged ℕ) (Judged (List Entry)) (Judged ℕ) (Judged Column) (Judged (List Column))
  judged_query_level = map-Query Expr JoinTree Order Output Query (Judged ℕ) (Judged (List Entry)) (Judged ℕ) (Judged Column) (Judged (List Column)) judged_e judged_t judged_o judged_u judged_q

  abbrev in_query_level : Query-F Expr JoinTree Order Output Query → Query-F (List ℕ) (List ℕ) (List ℕ) (List ℕ) (List ℕ)
  in_query_level = map-Query Expr JoinTree Order Output Query (List ℕ) (List ℕ) (List ℕ) (List ℕ) (List ℕ) in_expr in_tree in_order in_output leaves_in

  query_good : (y : Query-F E T O U Q) (scope : Scope) → QueryPasses schema tells_relations_apart scope (judged_query_level (bare_query y)) → Each (NotIn scope) (query_gives ℕ nothing_of_node leaf_number (in_query_level (bare_query y)))
  query_good y scope good =
      let level = in_query_level (bare_query y) in
      let entries = (judged_t y.tree.0).value scope in
      let seen = entries ++ scope in
      each_append (NotIn scope) (all_in level.columns) (level.tree ++ (all_in level.conds ++ all_in level.order)) (outwards entries scope (all_in level.columns) (all_good seen level.columns (of_outputs seen y.columns good.columns)))
      (each_append (NotIn scope) level.tree (all_in level.conds ++ all_in level.order) (y.tree.1 scope good.tree (subst (λ (e : EntriesIn). are_distinct (map relation_of (e scope ++ scope)) ≡ true) (entries_judged schema tells_relations_apart y.tree.0) good.place))
      (each_append (NotIn scope) (all_in level.conds) (all_in level.order) (outwards entries scope (all_in level.conds) (all_good seen level.conds (of_exprs seen y.conds good.conds))) (outwards entries scope (all_in level.order) (all_good seen level.order (of_orders seen y.order good.order)))))

  expr_step : (y : Expr-F E T O U Q) → GoodExpr (roll-Expr (bare_expr y))
  expr_step y scope h = subst (Each (NotIn scope)) (sym (fold-roll-Expr (List ℕ) (List ℕ) (List ℕ) (List ℕ) (List ℕ) (expr_gives ℕ nothing_of_node leaf_number) (tree_gives ℕ nothing_of_node leaf_number) (order_gives ℕ nothing_of_node leaf_number) (output_gives ℕ nothing_of_node leaf_number) (query_gives ℕ nothing_of_node leaf_number) (bare_expr y)))
      (expr_good y scope (subst (λ (j : Judged ℕ). j.passes scope ≡ true) (fold-roll-Expr (Judged ℕ) (Judged (List Entry)) (Judged ℕ) (Judged Column) (Judged (List Column)) (expr_judged schema tells_relations_apart) (tree_judged schema tells_relations_apart) (order_judged schema tells_relations_apart) (output_judged schema tells_relations_apart) (query_judged schema tells_relations_apart) (bare_expr y)) h))

  tree_step : (y : JoinTree-F E T O U Q) → GoodTree (roll-JoinTree (bare_tree y))
  tree_step y scope h d = subst (Each (NotIn scope)) (sym (fold-roll-JoinTree (List ℕ) (List ℕ) (List ℕ) (List ℕ) (List ℕ) (expr_gives ℕ nothing_of_node leaf_number) (tree_gives ℕ nothing_of_node leaf_number) (order_gives ℕ nothing_of_node leaf_number) (output_gives ℕ nothing_of_node leaf_number) (query_gives ℕ nothing_of_node leaf_number) (bare_tree y)))
      (tree_good y scope (tree_passed schema tells_relations_apart scope (judged_tree_level (bare_tree y)) (subst (λ (j : Judged (List Entry)). j.passes scope ≡ true) (fold-roll-JoinTree (Judged ℕ) (Judged (List Entry)) (Judged ℕ) (Judged Column) (Judged (List Column)) (expr_judged schema tells_relations_apart) (tree_judged schema tells_relations_apart) (order_judged schema tells_relations_apart) (output_judged schema tells_relations_apart) (query_judged schema tells_relations_apart) (bare_tree y)) h)) d)

  order_step : (y : Order-F E T O U Q) → GoodOrder (roll-Order (bare_order y))
  order_step y scope h = subst (Each (NotIn scope)) (sym (fold-roll-Order (List ℕ) (List ℕ) (List ℕ) (List ℕ) (List ℕ) (expr_gives ℕ nothing_of_node leaf_number) (tree_gives ℕ nothing_of_node leaf_number) (order_gives ℕ nothing_of_node leaf_number) (output_gives ℕ nothing_of_node leaf_number) (query_gives ℕ nothing_of_node leaf_number) (bare_order y)))
      (y.expr.1 scope (subst (λ (j : Judged ℕ). j.passes scope ≡ true) (fold-roll-Order (Judged ℕ) (Judged (List Entry)) (Judged ℕ) (Judged Column) (Judged (List Column)) (expr_judged schema tells_relations_apart) (tree_judged schema tells_relations_apart) (order_judged schema tells_relations_apart) (output_judged schema tells_relations_apart) (query_judged schema tells_relations_apart) (bare_order y)) h))

  output_step : (y : Output-F E T O U Q) → GoodOutput (roll-Output (bare_output y))
  output_step y scope h = subst (Each (NotIn scope)) (sym (fold-roll-Output (List ℕ) (List ℕ) (List ℕ) (List ℕ) (List ℕ) (expr_gives ℕ nothing_of_node leaf_number) (tree_gives ℕ nothing_of_node leaf_number) (order_gives ℕ nothing_of_node leaf_number) (output_gives ℕ nothing_of_node leaf_number) (query_gives ℕ nothing_of_node leaf_number) (bare_output y)))
      (y.expr.1 scope (subst (λ (j : Judged Column). j.passes scope ≡ true) (fold-roll-Output (Judged ℕ) (Judged (List Entry)) (Judged ℕ) (Judged Column) (Judged (List Column)) (expr_judged schema tells_relations_apart) (tree_judged schema tells_relations_apart) (order_judged schema tells_relations_apart) (output_judged schema tells_relations_apart) (query_judged schema tells_relations_apart) (bare_output y)) h))

  query_step : (y : Query-F E T O U Q) → GoodQuery (roll-Query (bare_query y))
  query_step y scope h = subst (Each (NotIn scope)) (sym (fold-roll-Query (List ℕ) (List ℕ) (List ℕ) (List ℕ) (List ℕ) (expr_gives ℕ nothing_of_node leaf_number) (tree_gives ℕ nothing_of_node leaf_number) (order_gives ℕ nothing_of_node leaf_number) (output_gives ℕ nothing_of_node leaf_number) (query_gives ℕ nothing_of_node leaf_number) (bare_query y)))
      (query_good y scope (query_passed schema tells_relations_apart scope (judged_query_level (bare_query y)) (subst (λ (j : Judged (List Column)). j.passes scope ≡ true) (fold-roll-Query (Judged ℕ) (Judged (List Entry)) (Judged ℕ) (Judged Column) (Judged (List Column)) (expr_judged schema tells_relations_apart) (tree_judged schema tells_relations_apart) (order_judged schema tells_relations_apart) (output_judged schema tells_relations_apart) (query_judged schema tells_relations_apart) (bare_query y)) h)))

  pub leaves_apart : (x : Query) → GoodQuery x
  leaves_apart = ind-Query GoodExpr GoodTree GoodOrder GoodOutput GoodQuery
      (λ x y is. subst (λ z. GoodExpr (roll-Expr z)) is (expr_step y))
      (λ x y is. subst (λ z. GoodTree (roll-JoinTree z)) is (tree_step y))
      (λ x y is. subst (λ z. GoodOrder (roll-Order z)) is (order_step y))
      (λ x y is. subst (λ z. GoodOutput (roll-Output z)) is (output_step y))
      (λ x y is. subst (λ z. GoodQuery (roll-Query z)) is (query_step y))

-- ---- cells of columns that aren't visible

no_columns : (outer : Scope) (rel : ℕ) → NotIn outer rel → visible_columns outer rel ≡ []
no_columns [] rel out = refl
no_columns (e ∷ outer) rel out = elim (cases_eq e.relation rel) [
  | inl same ↦ absurd (out (first_in same))
  | inr other ↦ ap (λ b. if b then e.columns else visible_columns outer rel) (ne_eqb e.relation rel other) ∙ no_columns outer rel (λ p. out (in_right (e ∷ []) outer rel p))
]
  where
    first_in : e.relation ≡ rel → InEntries (e ∷ outer) rel
    first_in same = in_left (e ∷ []) outer rel (ap (λ b. b || false) (eq-eqb rel e.relation (sym same)))

unseen_cell : (outer : Scope) (env : Env) (c : ColumnRef) → NotIn outer c.relation → IsCellAt outer env c
unseen_cell outer env c out = subst (λ (cs : List Column). IsCellOfSome (slice_get cs c.column) (cell_in (env c.relation) c.column)) (sym (no_columns outer c.relation out)) tt

among_leaves : (outer : Scope) (rel : ℕ) (leaves : List ℕ) → Each (NotIn outer) leaves → list_any (◌==◌ rel) leaves ≡ true → NotIn outer rel
among_leaves outer rel [] h any = absurd (false_true any)
  where
    false_true : false ≡ true → ⊥
    false_true e = cc
among_leaves outer rel (n ∷ leaves) h any = elim (cases_eq rel n) [
  | inl same ↦ subst (NotIn outer) (sym same) h.0
  | inr other ↦ among_leaves outer rel leaves h.1 (subst (λ b. (b || list_any (◌==◌ rel) leaves) ≡ true) (ne_eqb rel n other) any)
]

outside_cell : (outer : Scope) (env : Env) (leaves : List ℕ) → Each (NotIn outer) leaves → (c : ColumnRef) (cs : List ColumnRef) (b : Bool) → list_any (◌==◌ c.relation) leaves ≡ b → Each (IsCellAt outer env) (cond (not b) (c ∷ filter (is_outside leaves) cs) (filter (is_outside leaves) cs)) → IsCellAt outer env c × Each (IsCellAt outer env) (filter (is_outside leaves) cs)
outside_cell outer env leaves apart c cs true e h = (unseen_cell outer env c (among_leaves outer c.relation leaves apart e), h)
outside_cell outer env leaves apart c cs false e h = h

pub outside_cells : (outer : Scope) (env : Env) (leaves : List ℕ) → Each (NotIn outer) leaves → (cs : List ColumnRef) → Each (IsCellAt outer env) (filter (is_outside leaves) cs) → Each (IsCellAt outer env) cs
outside_cells outer env leaves apart [] h = tt
outside_cells outer env leaves apart (c ∷ cs) h = let both = outside_cell outer env leaves apart c cs (list_any (◌==◌ c.relation) leaves) refl h in (both.0, outside_cells outer env leaves apart cs both.1)
