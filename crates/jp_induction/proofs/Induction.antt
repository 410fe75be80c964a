-- Induction over the five tree types, in the words of the parts of one level: a claim holds of every tree if it holds of
-- each level whose parts it holds of. No step sees a proof beside a child: it gets the level as it is, and the claims of its
-- parts in the order in which they are written.
use Rattle.std.proofs.Common.{sym, subst, List, [], ◌∷◌, map}
use Rattle.jp_query.specs.declared.Expr.{Expr}
use Rattle.jp_query.specs.declared.JoinTree.{JoinTree}
use Rattle.jp_query.specs.declared.Order.{Order}
use Rattle.jp_query.specs.declared.Output.{Output}
use Rattle.jp_query.specs.declared.Query.{Query}
use Rattle.jp_query.specs.declared.Expr.TheOpen.{Expr-F, JoinTree-F, Order-F, Output-F, Query-F}
use Rattle.jp_query.specs.declared.Expr.TheViews.{roll-Expr, roll-JoinTree, roll-Order, roll-Output, roll-Query}
use Rattle.jp_query.specs.declared.Expr.TheFolds.{map-Expr, map-JoinTree, map-Order, map-Output, map-Query, ind-Expr, ind-JoinTree, ind-Order, ind-Output, ind-Query}
use Rattle.jp_query.specs.Layers.{ExprLayer, JoinTreeLayer, OrderLayer, OutputLayer, QueryLayer}
use Rattle.jp_query.specs.Parts.{option_part, parts, sublink_query, trees, conditions, leaf_query}
use Rattle.jp_induction.proofs.EachPart.{Each, parts_map, sublink_map, trees_map, conditions_map, leaf_map}

module _ {A : Type 0} (P : A → Type 0) where
  -- children that stand with their claims
  held : (ys : List ((x : A) × P x)) → Each P (map (λ (y : (x : A) × P x). y.0) ys)
  held [] = tt
  held (y ∷ ys) = (y.1, held ys)

module _ (PE : Expr → Type 0) (PT : JoinTree → Type 0) (PO : Order → Type 0) (PU : Output → Type 0) (PQ : Query → Type 0) where
  -- what is to be shown of each level
  pub record Steps : Type 0 where
    pub expr : (x : ExprLayer) → Each PE (parts x) → Each PQ (option_part (sublink_query x)) → PE (roll-Expr x)
    pub tree : (t : JoinTreeLayer) → Each PT (trees t) → Each PE (conditions t) → Each PQ (option_part (leaf_query t)) → PT (roll-JoinTree t)
    pub order : (o : OrderLayer) → PE o.expr → PO (roll-Order o)
    pub output : (u : OutputLayer) → PE u.expr → PU (roll-Output u)
    pub query : (q : QueryLayer) → Each PU q.columns → PT q.tree → Each PE q.conds → Each PO q.order → PQ (roll-Query q)

  abbrev E : Type 0
  E = (x : Expr) × PE x

  abbrev bare_e : E → Expr
  bare_e y = y.0

  abbrev T : Type 0
  T = (x : JoinTree) × PT x

  abbrev bare_t : T → JoinTree
  bare_t y = y.0

  abbrev O : Type 0
  O = (x : Order) × PO x

  abbrev bare_o : O → Order
  bare_o y = y.0

  abbrev U : Type 0
  U = (x : Output) × PU x

  abbrev bare_u : U → Output
  bare_u y = y.0

  abbrev Q : Type 0
  Q = (x : Query) × PQ x

  abbrev bare_q : Q → Query
  bare_q y = y.0

  abbrev bare_expr : Expr-F E T O U Q → Expr-F Expr JoinTree Order Output Query
  bare_expr = map-Expr E T O U Q Expr JoinTree Order Output Query bare_e bare_t bare_o bare_u bare_q

  abbrev bare_tree : JoinTree-F E T O U Q → JoinTree-F Expr JoinTree Order Output Query
  bare_tree = map-JoinTree E T O U Q Expr JoinTree Order Output Query bare_e bare_t bare_o bare_u bare_q

  abbrev bare_order : Order-F E T O U Q → Order-F Expr JoinTree Order Output Query
  bare_order = map-Order E T O U Q Expr JoinTree Order Output Query bare_e bare_t bare_o bare_u bare_q

  abbrev bare_output : Output-F E T O U Q → Output-F Expr JoinTree Order Output Query
  bare_output = map-Output E T O U Q Expr JoinTree Order Output Query bare_e bare_t bare_o bare_u bare_q

  abbrev bare_query : Query-F E T O U Q → Query-F Expr JoinTree Order Output Query
  bare_query = map-Query E T O U Q Expr JoinTree Order Output Query bare_e bare_t bare_o bare_u bare_q

  module _ (steps : Steps) where
    expr_step : (y : Expr-F E T O U Q) → PE (roll-Expr (bare_expr y))
    expr_step y = steps.expr (bare_expr y) (subst (Each PE) (sym (parts_map bare_e bare_t bare_o bare_u bare_q y)) (held PE (parts y))) (subst (Each PQ) (sym (sublink_map bare_e bare_t bare_o bare_u bare_q y)) (held PQ (option_part (sublink_query y))))

    tree_step : (y : JoinTree-F E T O U Q) → PT (roll-JoinTree (bare_tree y))
    tree_step y = steps.tree (bare_tree y) (subst (Each PT) (sym (trees_map bare_e bare_t bare_o bare_u bare_q y)) (held PT (trees y))) (subst (Each PE) (sym (conditions_map bare_e bare_t bare_o bare_u bare_q y)) (held PE (conditions y)))
        (subst (Each PQ) (sym (leaf_map bare_e bare_t bare_o bare_u bare_q y)) (held PQ (option_part (leaf_query y))))

    order_step : (y : Order-F E T O U Q) → PO (roll-Order (bare_order y))
    order_step y = steps.order (bare_order y) y.expr.1

    output_step : (y : Output-F E T O U Q) → PU (roll-Output (bare_output y))
    output_step y = steps.output (bare_output y) y.expr.1

    query_step : (y : Query-F E T O U Q) → PQ (roll-Query (bare_query y))
    query_step y = steps.query (bare_query y) (held PU y.columns) y.tree.1 (held PE y.conds) (held PO y.order)

    pub at_expr : (x : Expr) → PE x
    at_expr = ind-Expr PE PT PO PU PQ
        (λ x y is. subst (λ z. PE (roll-Expr z)) is (expr_step y))
        (λ x y is. subst (λ z. PT (roll-JoinTree z)) is (tree_step y))
        (λ x y is. subst (λ z. PO (roll-Order z)) is (order_step y))
        (λ x y is. subst (λ z. PU (roll-Output z)) is (output_step y))
        (λ x y is. subst (λ z. PQ (roll-Query z)) is (query_step y))

    pub at_tree : (x : JoinTree) → PT x
    at_tree = ind-JoinTree PE PT PO PU PQ
        (λ x y is. subst (λ z. PE (roll-Expr z)) is (expr_step y))
        (λ x y is. subst (λ z. PT (roll-JoinTree z)) is (tree_step y))
        (λ x y is. subst (λ z. PO (roll-Order z)) is (order_step y))
        (λ x y is. subst (λ z. PU (roll-Output z)) is (output_step y))
        (λ x y is. subst (λ z. PQ (roll-Query z)) is (query_step y))

    pub at_order : (x : Order) → PO x
    at_order = ind-Order PE PT PO PU PQ
        (λ x y is. subst (λ z. PE (roll-Expr z)) is (expr_step y))
        (λ x y is. subst (λ z. PT (roll-JoinTree z)) is (tree_step y))
        (λ x y is. subst (λ z. PO (roll-Order z)) is (order_step y))
        (λ x y is. subst (λ z. PU (roll-Output z)) is (output_step y))
        (λ x y is. subst (λ z. PQ (roll-Query z)) is (query_step y))

    pub at_output : (x : Output) → PU x
    at_output = ind-Output PE PT PO PU PQ
        (λ x y is. subst (λ z. PE (roll-Expr z)) is (expr_step y))
        (λ x y is. subst (λ z. PT (roll-JoinTree z)) is (tree_step y))
        (λ x y is. subst (λ z. PO (roll-Order z)) is (order_step y))
        (λ x y is. subst (λ z. PU (roll-Output z)) is (output_step y))
        (λ x y is. subst (λ z. PQ (roll-Query z)) is (query_step y))

    pub at_query : (x : Query) → PQ x
    at_query = ind-Query PE PT PO PU PQ
        (λ x y is. subst (λ z. PE (roll-Expr z)) is (expr_step y))
        (λ x y is. subst (λ z. PT (roll-JoinTree z)) is (tree_step y))
        (λ x y is. subst (λ z. PO (roll-Order z)) is (order_step y))
        (λ x y is. subst (λ z. PU (roll-Output z)) is (output_step y))
        (λ x y is. subst (λ z. PQ (roll-Query z)) is (query_step y))

-- a claim on expressions alone, which asks nothing of the queries of sublinks
pub expr_alone : (P : Expr → Type 0) → ((x : ExprLayer) → Each P (parts x) → P (roll-Expr x)) → (x : Expr) → P x
expr_alone P step = at_expr P (λ t. Unit {0}) (λ o. Unit {0}) (λ u. Unit {0}) (λ q. Unit {0}) (record {
  expr = λ x inner query. step x inner;
  tree = λ t inner conds query. tt;
  order = λ o inner. tt;
  output = λ u inner. tt;
  query = λ q columns tree conds order. tt;
})

-- a claim on join trees alone, which asks nothing of conditions and of sub-selects
pub tree_alone : (P : JoinTree → Type 0) → ((t : JoinTreeLayer) → Each P (trees t) → P (roll-JoinTree t)) → (t : JoinTree) → P t
tree_alone P step = at_tree (λ e. Unit {0}) P (λ o. Unit {0}) (λ u. Unit {0}) (λ q. Unit {0}) (record {
  expr = λ x inner query. tt;
  tree = λ t inner conds query. step t inner;
  order = λ o inner. tt;
  output = λ u inner. tt;
  query = λ q columns tree conds order. tt;
})
