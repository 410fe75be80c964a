-- Conditions on trees that are handed down to their parts, with what is known where they stand: the conditions of a join
-- tree and what stands above a query's tree may know more than the place of the whole.
use Rattle.jp_query.specs.declared.Expr.{Expr}
use Rattle.jp_query.specs.declared.JoinTree.{JoinTree}
use Rattle.jp_query.specs.declared.Order.{Order}
use Rattle.jp_query.specs.declared.Output.{Output}
use Rattle.jp_query.specs.declared.Query.{Query}
use Rattle.jp_query.specs.declared.Expr.TheViews.{roll-Expr, roll-JoinTree, roll-Order, roll-Output, roll-Query}
use Rattle.jp_query.specs.Layers.{ExprLayer, JoinTreeLayer, OrderLayer, OutputLayer, QueryLayer}
use Rattle.jp_query.specs.Parts.{option_part, parts, sublink_query, trees, conditions, leaf_query}
use Rattle.jp_induction.specs.Each.{Each}

module _ (S : Type 0) (inside : S → JoinTreeLayer → S) (above : S → QueryLayer → S) (CE : S → Expr → Type 0) (CT : S → JoinTree → Type 0) (CO : S → Order → Type 0) (CU : S → Output → Type 0) (CQ : S → Query → Type 0) where
  pub record HandsDown : Type 0 where
    pub expr : (s : S) (x : ExprLayer) → CE s (roll-Expr x) → Each (CE s) (parts x) × Each (CQ s) (option_part (sublink_query x))
    -- ON and the conditions of FROM know what is inside the tree; its sub-select doesn't
    pub tree : (s : S) (t : JoinTreeLayer) → CT s (roll-JoinTree t) → Each (CT s) (trees t) × Each (CE (inside s t)) (conditions t) × Each (CQ s) (option_part (leaf_query t))
    pub order : (s : S) (o : OrderLayer) → CO s (roll-Order o) → CE s o.expr
    pub output : (s : S) (u : OutputLayer) → CU s (roll-Output u) → CE s u.expr
    pub query : (s : S) (q : QueryLayer) → CQ s (roll-Query q) → Each (CU (above s q)) q.columns × CT s q.tree × Each (CE (above s q)) q.conds × Each (CO (above s q)) q.order
