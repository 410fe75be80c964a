-- The meaning at one level: what a tree means, by what its parts mean.
use Rattle.std.proofs.Common.{◌≡◌, ℕ, List}
use Rattle.jp_query.specs.declared.Expr.{Expr}
use Rattle.jp_query.specs.declared.JoinTree.{JoinTree}
use Rattle.jp_query.specs.declared.Order.{Order}
use Rattle.jp_query.specs.declared.Output.{Output}
use Rattle.jp_query.specs.declared.Query.{Query}
use Rattle.jp_query.specs.declared.Expr.TheOpen.{Expr-F, JoinTree-F, Order-F, Output-F, Query-F}
use Rattle.jp_query.specs.declared.Expr.TheViews.{roll-Expr, roll-JoinTree, roll-Order, roll-Output, roll-Query}
use Rattle.jp_query.specs.declared.Expr.TheFolds.{map-Expr, map-JoinTree, map-Order, map-Output, map-Query, fold-roll-Expr, fold-roll-JoinTree, fold-roll-Order, fold-roll-Output, fold-roll-Query}
use Rattle.jp_query.specs.Layers.{ExprLayer, JoinTreeLayer, OrderLayer, OutputLayer, QueryLayer}
use Rattle.jp_query.specs.Meaning.{Row, ValueIn, Tuples, SortKey, RowsIn, in_place, expr_value, tree_tuples, order_key, output_value, query_rows, value_of, tuples_of, meaning}
pub use Rattle.jp_induction.specs.Rewritings.{key_of, output_of}

module _ (tables : ℕ → List Row) where
  abbrev pub expr_level : ExprLayer → Expr-F ValueIn Tuples SortKey ValueIn RowsIn
  expr_level = map-Expr Expr JoinTree Order Output Query ValueIn Tuples SortKey ValueIn RowsIn (value_of tables) (tuples_of tables) (key_of tables) (output_of tables) (meaning tables)

  abbrev pub tree_level : JoinTreeLayer → JoinTree-F ValueIn Tuples SortKey ValueIn RowsIn
  tree_level = map-JoinTree Expr JoinTree Order Output Query ValueIn Tuples SortKey ValueIn RowsIn (value_of tables) (tuples_of tables) (key_of tables) (output_of tables) (meaning tables)

  abbrev pub order_level : OrderLayer → Order-F ValueIn Tuples SortKey ValueIn RowsIn
  order_level = map-Order Expr JoinTree Order Output Query ValueIn Tuples SortKey ValueIn RowsIn (value_of tables) (tuples_of tables) (key_of tables) (output_of tables) (meaning tables)

  abbrev pub output_level : OutputLayer → Output-F ValueIn Tuples SortKey ValueIn RowsIn
  output_level = map-Output Expr JoinTree Order Output Query ValueIn Tuples SortKey ValueIn RowsIn (value_of tables) (tuples_of tables) (key_of tables) (output_of tables) (meaning tables)

  abbrev pub query_level : QueryLayer → Query-F ValueIn Tuples SortKey ValueIn RowsIn
  query_level = map-Query Expr JoinTree Order Output Query ValueIn Tuples SortKey ValueIn RowsIn (value_of tables) (tuples_of tables) (key_of tables) (output_of tables) (meaning tables)

  pub at_expr : (x : ExprLayer) → value_of tables (roll-Expr x) ≡ expr_value in_place (expr_level x)
  at_expr = fold-roll-Expr ValueIn Tuples SortKey ValueIn RowsIn (expr_value in_place) (tree_tuples tables) order_key output_value query_rows

  pub at_tree : (x : JoinTreeLayer) → tuples_of tables (roll-JoinTree x) ≡ tree_tuples tables (tree_level x)
  at_tree = fold-roll-JoinTree ValueIn Tuples SortKey ValueIn RowsIn (expr_value in_place) (tree_tuples tables) order_key output_value query_rows

  pub at_order : (x : OrderLayer) → key_of tables (roll-Order x) ≡ order_key (order_level x)
  at_order = fold-roll-Order ValueIn Tuples SortKey ValueIn RowsIn (expr_value in_place) (tree_tuples tables) order_key output_value query_rows

  pub at_output : (x : OutputLayer) → output_of tables (roll-Output x) ≡ output_value (output_level x)
  at_output = fold-roll-Output ValueIn Tuples SortKey ValueIn RowsIn (expr_value in_place) (tree_tuples tables) order_key output_value query_rows

  pub at_query : (x : QueryLayer) → meaning tables (roll-Query x) ≡ query_rows (query_level x)
  at_query = fold-roll-Query ValueIn Tuples SortKey ValueIn RowsIn (expr_value in_place) (tree_tuples tables) order_key output_value query_rows
