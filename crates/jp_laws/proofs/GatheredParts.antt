-- What holds of all that a tree gathers holds of what each of its parts gathers.
use Rattle.std.proofs.Common.{subst, List, ◌++◌, map, sym}
use Rattle.jp_query.specs.declared.Expr.{Expr}
use Rattle.jp_query.specs.declared.JoinTree.{JoinTree}
use Rattle.jp_query.specs.declared.Order.{Order}
use Rattle.jp_query.specs.declared.Output.{Output}
use Rattle.jp_query.specs.declared.Query.{Query}
use Rattle.jp_query.specs.declared.Expr.TheOpen.{Expr-F, JoinTree-F, Order-F, Output-F, Query-F}
use Rattle.jp_query.specs.declared.Expr.TheViews.{roll-Expr, roll-JoinTree, roll-Order, roll-Output, roll-Query}
use Rattle.jp_query.specs.declared.Expr.TheFolds.{fold-Order, fold-Output, map-Expr, map-JoinTree, fold-roll-Expr, fold-roll-JoinTree, fold-roll-Order, fold-roll-Output, fold-roll-Query}
use Rattle.jp_query.specs.Parts.{all_in, option_part, parts, sublink_query, trees, conditions, leaf_query, nothing_of_leaf, expr_gives, tree_gives, order_gives, output_gives, query_gives, gathered, gathered_in_tree, gathered_in_query}
use Rattle.jp_laws.proofs.EachPart.{Each, each_left, each_right, each_in_all, each_mapped, parts_map, sublink_map, trees_map, conditions_map, leaf_map, each_append, each_in_parts, each_map}

module _ (X : Type 0) (of_node : Expr-F (List X) (List X) (List X) (List X) (List X) → List X) where
  abbrev pub in_expr : Expr → List X
  in_expr = gathered X of_node nothing_of_leaf

  abbrev pub in_tree : JoinTree → List X
  in_tree = gathered_in_tree X of_node nothing_of_leaf

  abbrev pub in_query : Query → List X
  in_query = gathered_in_query X of_node nothing_of_leaf

  abbrev pub in_order : Order → List X
  in_order = fold-Order (List X) (List X) (List X) (List X) (List X) (expr_gives X of_node nothing_of_leaf) (tree_gives X of_node nothing_of_leaf) (order_gives X of_node nothing_of_leaf) (output_gives X of_node nothing_of_leaf) (query_gives X of_node nothing_of_leaf)

  abbrev pub in_output : Output → List X
  in_output = fold-Output (List X) (List X) (List X) (List X) (List X) (expr_gives X of_node nothing_of_leaf) (tree_gives X of_node nothing_of_leaf) (order_gives X of_node nothing_of_leaf) (output_gives X of_node nothing_of_leaf) (query_gives X of_node nothing_of_leaf)

  abbrev pub node_level : Expr-F Expr JoinTree Order Output Query → Expr-F (List X) (List X) (List X) (List X) (List X)
  node_level = map-Expr Expr JoinTree Order Output Query (List X) (List X) (List X) (List X) (List X) in_expr in_tree in_order in_output in_query

  abbrev tree_level : JoinTree-F Expr JoinTree Order Output Query → JoinTree-F (List X) (List X) (List X) (List X) (List X)
  tree_level = map-JoinTree Expr JoinTree Order Output Query (List X) (List X) (List X) (List X) (List X) in_expr in_tree in_order in_output in_query

  module _ (P : X → Type 0) where
    pub record ExprHas (x : Expr-F Expr JoinTree Order Output Query) : Type 0 where
      pub node : Each P (of_node (node_level x))
      pub exprs : Each (λ e. Each P (in_expr e)) (parts x)
      pub query : Each (λ q. Each P (in_query q)) (option_part (sublink_query x))

    pub expr_has : (x : Expr-F Expr JoinTree Order Output Query) → Each P (in_expr (roll-Expr x)) → ExprHas x
    expr_has x h =
        let level = node_level x in
        let all = subst (Each P) {y = expr_gives X of_node nothing_of_leaf level} (fold-roll-Expr (List X) (List X) (List X) (List X) (List X) (expr_gives X of_node nothing_of_leaf) (tree_gives X of_node nothing_of_leaf) (order_gives X of_node nothing_of_leaf) (output_gives X of_node nothing_of_leaf) (query_gives X of_node nothing_of_leaf) x) h in
        let inner = each_right P (of_node level) (all_in (parts level) ++ all_in (option_part (sublink_query level))) all in
        record {
          node = each_left P (of_node level) (all_in (parts level) ++ all_in (option_part (sublink_query level))) all;
          exprs = each_mapped (Each P) in_expr (parts x) (subst (Each (Each P)) (parts_map in_expr in_tree in_order in_output in_query x) (each_in_all P (parts level) (each_left P (all_in (parts level)) (all_in (option_part (sublink_query level))) inner)));
          query = each_mapped (Each P) in_query (option_part (sublink_query x)) (subst (Each (Each P)) (sublink_map in_expr in_tree in_order in_output in_query x) (each_in_all P (option_part (sublink_query level)) (each_right P (all_in (parts level)) (all_in (option_part (sublink_query level))) inner)));
        }

    pub record TreeHas (t : JoinTree-F Expr JoinTree Order Output Query) : Type 0 where
      pub sides : Each (λ t. Each P (in_tree t)) (trees t)
      pub conds : Each (λ e. Each P (in_expr e)) (conditions t)
      pub query : Each (λ q. Each P (in_query q)) (option_part (leaf_query t))

    pub tree_has : (t : JoinTree-F Expr JoinTree Order Output Query) → Each P (in_tree (roll-JoinTree t)) → TreeHas t
    tree_has t h =
        let level = tree_level t in
        let all = subst (Each P) {y = tree_gives X of_node nothing_of_leaf level} (fold-roll-JoinTree (List X) (List X) (List X) (List X) (List X) (expr_gives X of_node nothing_of_leaf) (tree_gives X of_node nothing_of_leaf) (order_gives X of_node nothing_of_leaf) (output_gives X of_node nothing_of_leaf) (query_gives X of_node nothing_of_leaf) t) h in
        let rest = each_right P (all_in (trees level)) (all_in (conditions level) ++ all_in (option_part (leaf_query level))) all in
        record {
          sides = each_mapped (Each P) in_tree (trees t) (subst (Each (Each P)) (trees_map in_expr in_tree in_order in_output in_query t) (each_in_all P (trees level) (each_left P (all_in (trees level)) (all_in (conditions level) ++ all_in (option_part (leaf_query level))) all)));
          conds = each_mapped (Each P) in_expr (conditions t) (subst (Each (Each P)) (conditions_map in_expr in_tree in_order in_output in_query t) (each_in_all P (conditions level) (each_left P (all_in (conditions level)) (all_in (option_part (leaf_query level))) rest)));
          query = each_mapped (Each P) in_query (option_part (leaf_query t)) (subst (Each (Each P)) (leaf_map in_expr in_tree in_order in_output in_query t) (each_in_all P (option_part (leaf_query level)) (each_right P (all_in (conditions level)) (all_in (option_part (leaf_query level))) rest)));
        }

    pub record QueryHas (q : Query-F Expr JoinTree Order Output Query) : Type 0 where
      pub columns : Each (λ u. Each P (in_output u)) q.columns
      pub tree : Each P (in_tree q.tree)
      pub conds : Each (λ e. Each P (in_expr e)) q.conds
      pub order : Each (λ o. Each P (in_order o)) q.order

    pub query_has : (q : Query-F Expr JoinTree Order Output Query) → Each P (in_query (roll-Query q)) → QueryHas q
    query_has q h =
        let outputs = all_in (map in_output q.columns) in
        let conds = all_in (map in_expr q.conds) in
        let order = all_in (map in_order q.order) in
        let all = subst (Each P) {y = outputs ++ (in_tree q.tree ++ (conds ++ order))} (fold-roll-Query (List X) (List X) (List X) (List X) (List X) (expr_gives X of_node nothing_of_leaf) (tree_gives X of_node nothing_of_leaf) (order_gives X of_node nothing_of_leaf) (output_gives X of_node nothing_of_leaf) (query_gives X of_node nothing_of_leaf) q) h in
        let rest = each_right P outputs (in_tree q.tree ++ (conds ++ order)) all in
        let last = each_right P (in_tree q.tree) (conds ++ order) rest in
        record {
          columns = each_mapped (Each P) in_output q.columns (each_in_all P (map in_output q.columns) (each_left P outputs (in_tree q.tree ++ (conds ++ order)) all));
          tree = each_left P (in_tree q.tree) (conds ++ order) rest;
          conds = each_mapped (Each P) in_expr q.conds (each_in_all P (map in_expr q.conds) (each_left P conds order last));
          order = each_mapped (Each P) in_order q.order (each_in_all P (map in_order q.order) (each_right P conds order last));
        }

    pub output_has : (u : Output-F Expr JoinTree Order Output Query) → Each P (in_output (roll-Output u)) → Each P (in_expr u.expr)
    output_has u h = subst (Each P) (fold-roll-Output (List X) (List X) (List X) (List X) (List X) (expr_gives X of_node nothing_of_leaf) (tree_gives X of_node nothing_of_leaf) (order_gives X of_node nothing_of_leaf) (output_gives X of_node nothing_of_leaf) (query_gives X of_node nothing_of_leaf) u) h

    pub order_has : (o : Order-F Expr JoinTree Order Output Query) → Each P (in_order (roll-Order o)) → Each P (in_expr o.expr)
    order_has o h = subst (Each P) (fold-roll-Order (List X) (List X) (List X) (List X) (List X) (expr_gives X of_node nothing_of_leaf) (tree_gives X of_node nothing_of_leaf) (order_gives X of_node nothing_of_leaf) (output_gives X of_node nothing_of_leaf) (query_gives X of_node nothing_of_leaf) o) h

    -- ---- and what holds of what each part gathers holds of all

    pub expr_made : (x : Expr-F Expr JoinTree Order Output Query) → ExprHas x → Each P (in_expr (roll-Expr x))
    expr_made x h =
        let level = node_level x in
        subst (Each P) (sym (fold-roll-Expr (List X) (List X) (List X) (List X) (List X) (expr_gives X of_node nothing_of_leaf) (tree_gives X of_node nothing_of_leaf) (order_gives X of_node nothing_of_leaf) (output_gives X of_node nothing_of_leaf) (query_gives X of_node nothing_of_leaf) x))
        (each_append P (of_node level) (all_in (parts level) ++ all_in (option_part (sublink_query level))) h.node
        (each_append P (all_in (parts level)) (all_in (option_part (sublink_query level)))
        (each_in_parts P (parts level) (subst (Each (Each P)) (sym (parts_map in_expr in_tree in_order in_output in_query x)) (each_map (Each P) in_expr (parts x) h.exprs)))
        (each_in_parts P (option_part (sublink_query level)) (subst (Each (Each P)) (sym (sublink_map in_expr in_tree in_order in_output in_query x)) (each_map (Each P) in_query (option_part (sublink_query x)) h.query)))))

    pub tree_made : (t : JoinTree-F Expr JoinTree Order Output Query) → TreeHas t → Each P (in_tree (roll-JoinTree t))
    tree_made t h =
        let level = tree_level t in
        subst (Each P) (sym (fold-roll-JoinTree (List X) (List X) (List X) (List X) (List X) (expr_gives X of_node nothing_of_leaf) (tree_gives X of_node nothing_of_leaf) (order_gives X of_node nothing_of_leaf) (output_gives X of_node nothing_of_leaf) (query_gives X of_node nothing_of_leaf) t))
        (each_append P (all_in (trees level)) (all_in (conditions level) ++ all_in (option_part (leaf_query level)))
        (each_in_parts P (trees level) (subst (Each (Each P)) (sym (trees_map in_expr in_tree in_order in_output in_query t)) (each_map (Each P) in_tree (trees t) h.sides)))
        (each_append P (all_in (conditions level)) (all_in (option_part (leaf_query level)))
        (each_in_parts P (conditions level) (subst (Each (Each P)) (sym (conditions_map in_expr in_tree in_order in_output in_query t)) (each_map (Each P) in_expr (conditions t) h.conds)))
        (each_in_parts P (option_part (leaf_query level)) (subst (Each (Each P)) (sym (leaf_map in_expr in_tree in_order in_output in_query t)) (each_map (Each P) in_query (option_part (leaf_query t)) h.query)))))

    pub query_made : (q : Query-F Expr JoinTree Order Output Query) → QueryHas q → Each P (in_query (roll-Query q))
    query_made q h =
        let conds = all_in (map in_expr q.conds) in
        let order = all_in (map in_order q.order) in
        subst (Each P) (sym (fold-roll-Query (List X) (List X) (List X) (List X) (List X) (expr_gives X of_node nothing_of_leaf) (tree_gives X of_node nothing_of_leaf) (order_gives X of_node nothing_of_leaf) (output_gives X of_node nothing_of_leaf) (query_gives X of_node nothing_of_leaf) q))
        (each_append P (all_in (map in_output q.columns)) (in_tree q.tree ++ (conds ++ order)) (each_in_parts P (map in_output q.columns) (each_map (Each P) in_output q.columns h.columns))
        (each_append P (in_tree q.tree) (conds ++ order) h.tree
        (each_append P conds order (each_in_parts P (map in_expr q.conds) (each_map (Each P) in_expr q.conds h.conds)) (each_in_parts P (map in_order q.order) (each_map (Each P) in_order q.order h.order)))))

    pub output_made : (u : Output-F Expr JoinTree Order Output Query) → Each P (in_expr u.expr) → Each P (in_output (roll-Output u))
    output_made u h = subst (Each P) (sym (fold-roll-Output (List X) (List X) (List X) (List X) (List X) (expr_gives X of_node nothing_of_leaf) (tree_gives X of_node nothing_of_leaf) (order_gives X of_node nothing_of_leaf) (output_gives X of_node nothing_of_leaf) (query_gives X of_node nothing_of_leaf) u)) h

    pub order_made : (o : Order-F Expr JoinTree Order Output Query) → Each P (in_expr o.expr) → Each P (in_order (roll-Order o))
    order_made o h = subst (Each P) (sym (fold-roll-Order (List X) (List X) (List X) (List X) (List X) (expr_gives X of_node nothing_of_leaf) (tree_gives X of_node nothing_of_leaf) (order_gives X of_node nothing_of_leaf) (output_gives X of_node nothing_of_leaf) (query_gives X of_node nothing_of_leaf) o)) h
