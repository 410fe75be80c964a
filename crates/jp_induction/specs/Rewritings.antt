-- Rewritings of queries: a step for each level, which gets the level with its parts rewritten.
use Rattle.std.specs.Prelude.{◌≡◌, ℕ, List, Bool, true}
use Rattle.jp_query.specs.declared.Expr.{Expr}
use Rattle.jp_query.specs.declared.JoinTree.{JoinTree}
use Rattle.jp_query.specs.declared.Order.{Order}
use Rattle.jp_query.specs.declared.Output.{Output}
use Rattle.jp_query.specs.declared.Query.{Query}
use Rattle.jp_query.specs.declared.Expr.TheFolds.{fold-Expr, fold-JoinTree, fold-Order, fold-Output, fold-Query, map-Expr, map-JoinTree, map-Order, map-Output, map-Query}
use Rattle.jp_query.specs.declared.Expr.TheViews.{roll-Expr, roll-JoinTree, roll-Order, roll-Output, roll-Query}
use Rattle.jp_query.specs.Layers.{ExprLayer, JoinTreeLayer, OrderLayer, OutputLayer, QueryLayer}
use Rattle.jp_query.specs.Meaning.{Row, ValueIn, Tuples, SortKey, RowsIn, in_place, expr_value, tree_tuples, order_key, output_value, query_rows, value_of, tuples_of, meaning}
use Rattle.jp_query.specs.Scopes.{Scope}
use Rattle.jp_induction.specs.HandedDown.{HandsDown}

pub record Rewriting : Type 0 where
  pub expr : ExprLayer → Expr
  pub tree : JoinTreeLayer → JoinTree
  pub order : OrderLayer → Order
  pub output : OutputLayer → Output
  pub query : QueryLayer → Query

abbrev pub rewritten_expr : Rewriting → Expr → Expr
rewritten_expr r = fold-Expr Expr JoinTree Order Output Query r.expr r.tree r.order r.output r.query

abbrev pub rewritten_tree : Rewriting → JoinTree → JoinTree
rewritten_tree r = fold-JoinTree Expr JoinTree Order Output Query r.expr r.tree r.order r.output r.query

abbrev pub rewritten_order : Rewriting → Order → Order
rewritten_order r = fold-Order Expr JoinTree Order Output Query r.expr r.tree r.order r.output r.query

abbrev pub rewritten_output : Rewriting → Output → Output
rewritten_output r = fold-Output Expr JoinTree Order Output Query r.expr r.tree r.order r.output r.query

abbrev pub rewritten_query : Rewriting → Query → Query
rewritten_query r = fold-Query Expr JoinTree Order Output Query r.expr r.tree r.order r.output r.query

-- what an ORDER BY item and an output mean
abbrev pub key_of : (ℕ → List Row) → Order → SortKey
key_of tables = fold-Order ValueIn Tuples SortKey ValueIn RowsIn (expr_value in_place) (tree_tuples tables) order_key output_value query_rows

abbrev pub output_of : (ℕ → List Row) → Output → ValueIn
output_of tables = fold-Output ValueIn Tuples SortKey ValueIn RowsIn (expr_value in_place) (tree_tuples tables) order_key output_value query_rows

-- each step gives what means the same as the level that it got
pub record KeepsEachLevel (tables : ℕ → List Row) (r : Rewriting) : Type 0 where
  pub expr : (x : ExprLayer) → value_of tables (r.expr x) ≡ value_of tables (roll-Expr x)
  pub tree : (x : JoinTreeLayer) → tuples_of tables (r.tree x) ≡ tuples_of tables (roll-JoinTree x)
  pub order : (x : OrderLayer) → key_of tables (r.order x) ≡ key_of tables (roll-Order x)
  pub output : (x : OutputLayer) → output_of tables (r.output x) ≡ output_of tables (roll-Output x)
  pub query : (x : QueryLayer) → meaning tables (r.query x) ≡ meaning tables (roll-Query x)

-- ---- under a condition

-- Tests of trees at a place, where a scope says what is visible there, and the scopes of the conditions of a join tree and of
-- what stands above a query's tree.
pub record PlaceTests : Type 0 where
  pub expr : Scope → Expr → Bool
  pub tree : Scope → JoinTree → Bool
  pub order : Scope → Order → Bool
  pub output : Scope → Output → Bool
  pub query : Scope → Query → Bool
  pub inside : Scope → JoinTreeLayer → Scope
  pub above : Scope → QueryLayer → Scope

-- the parts of what passes pass at their own places
abbrev pub AreHandedDown : PlaceTests → Type 0
AreHandedDown t = HandsDown Scope t.inside t.above (λ s x. t.expr s x ≡ true) (λ s x. t.tree s x ≡ true) (λ s x. t.order s x ≡ true) (λ s x. t.output s x ≡ true) (λ s x. t.query s x ≡ true)

-- the level with its parts rewritten
abbrev pub expr_parts_rewritten : Rewriting → ExprLayer → ExprLayer
expr_parts_rewritten r = map-Expr Expr JoinTree Order Output Query Expr JoinTree Order Output Query (rewritten_expr r) (rewritten_tree r) (rewritten_order r) (rewritten_output r) (rewritten_query r)

abbrev pub tree_parts_rewritten : Rewriting → JoinTreeLayer → JoinTreeLayer
tree_parts_rewritten r = map-JoinTree Expr JoinTree Order Output Query Expr JoinTree Order Output Query (rewritten_expr r) (rewritten_tree r) (rewritten_order r) (rewritten_output r) (rewritten_query r)

abbrev pub order_parts_rewritten : Rewriting → OrderLayer → OrderLayer
order_parts_rewritten r = map-Order Expr JoinTree Order Output Query Expr JoinTree Order Output Query (rewritten_expr r) (rewritten_tree r) (rewritten_order r) (rewritten_output r) (rewritten_query r)

abbrev pub output_parts_rewritten : Rewriting → OutputLayer → OutputLayer
output_parts_rewritten r = map-Output Expr JoinTree Order Output Query Expr JoinTree Order Output Query (rewritten_expr r) (rewritten_tree r) (rewritten_order r) (rewritten_output r) (rewritten_query r)

abbrev pub query_parts_rewritten : Rewriting → QueryLayer → QueryLayer
query_parts_rewritten r = map-Query Expr JoinTree Order Output Query Expr JoinTree Order Output Query (rewritten_expr r) (rewritten_tree r) (rewritten_order r) (rewritten_output r) (rewritten_query r)

-- each step gives what means the same as the level that it got, whose parts are rewritten by then, where the level as it was
-- passes
pub record KeepsEachTested (tables : ℕ → List Row) (r : Rewriting) (t : PlaceTests) : Type 0 where
  pub expr : (s : Scope) (x : ExprLayer) → t.expr s (roll-Expr x) ≡ true → value_of tables (r.expr (expr_parts_rewritten r x)) ≡ value_of tables (roll-Expr (expr_parts_rewritten r x))
  pub tree : (s : Scope) (x : JoinTreeLayer) → t.tree s (roll-JoinTree x) ≡ true → tuples_of tables (r.tree (tree_parts_rewritten r x)) ≡ tuples_of tables (roll-JoinTree (tree_parts_rewritten r x))
  pub order : (s : Scope) (x : OrderLayer) → t.order s (roll-Order x) ≡ true → key_of tables (r.order (order_parts_rewritten r x)) ≡ key_of tables (roll-Order (order_parts_rewritten r x))
  pub output : (s : Scope) (x : OutputLayer) → t.output s (roll-Output x) ≡ true → output_of tables (r.output (output_parts_rewritten r x)) ≡ output_of tables (roll-Output (output_parts_rewritten r x))
  pub query : (s : Scope) (x : QueryLayer) → t.query s (roll-Query x) ≡ true → meaning tables (r.query (query_parts_rewritten r x)) ≡ meaning tables (roll-Query (query_parts_rewritten r x))
