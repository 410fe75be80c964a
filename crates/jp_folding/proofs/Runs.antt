-- The equations by which folding is run on a tree that is written out.
use Rattle.std.proofs.Common.{◌≡◌, ap, ℕ, List}
use Rattle.jp_query.specs.declared.Expr.{Expr}
use Rattle.jp_query.specs.declared.JoinTree.{JoinTree}
use Rattle.jp_query.specs.declared.Order.{Order}
use Rattle.jp_query.specs.declared.Output.{Output}
use Rattle.jp_query.specs.declared.Query.{Query}
use Rattle.jp_query.specs.declared.Expr.TheFolds.{map-Expr, fold-roll-Expr, fold-roll-JoinTree, fold-roll-Order, fold-roll-Output, fold-roll-Query}
use Rattle.jp_query.specs.declared.Expr.TheViews.{roll-Expr, out-roll-Expr}
use Rattle.jp_query.specs.Layers.{ExprLayer}
use Rattle.jp_query.specs.Meaning.{Row, Env, ValueIn, Tuples, SortKey, RowsIn, given, no_tables, expr_value, tree_tuples, order_key, output_value, query_rows, value_given}
use Rattle.jp_query.proofs.FoldLaws as laws

pub value_rolls : (rows : ℕ → List Row) (x : ExprLayer) (env : Env) → value_given rows (roll-Expr x) env ≡ expr_value (given rows) (map-Expr Expr JoinTree Order Output Query ValueIn Tuples SortKey ValueIn RowsIn (value_given rows)
    (laws.of_tree ValueIn Tuples SortKey ValueIn RowsIn (expr_value (given rows)) (tree_tuples no_tables) order_key output_value query_rows)
    (laws.of_order ValueIn Tuples SortKey ValueIn RowsIn (expr_value (given rows)) (tree_tuples no_tables) order_key output_value query_rows)
    (laws.of_output ValueIn Tuples SortKey ValueIn RowsIn (expr_value (given rows)) (tree_tuples no_tables) order_key output_value query_rows)
    (laws.of_query ValueIn Tuples SortKey ValueIn RowsIn (expr_value (given rows)) (tree_tuples no_tables) order_key output_value query_rows) x) env
value_rolls rows x env = ap (λ (v : ValueIn). v env) (fold-roll-Expr ValueIn Tuples SortKey ValueIn RowsIn (expr_value (given rows)) (tree_tuples no_tables) order_key output_value query_rows x)

pub ruleset runs = (fold-roll-Expr, fold-roll-JoinTree, fold-roll-Order, fold-roll-Output, fold-roll-Query, out-roll-Expr, value_rolls)
