-- The equations by which the meaning and the tests of nullness are run on a tree that is written out, and counts of leaves.
use Rattle.std.proofs.Common.{◌≡◌, ap, ℕ, ◌^◌, List, arith}
use Rattle.std.specs.Prelude.{count_ones}
use Rattle.jp_query.specs.declared.Expr.{Expr}
use Rattle.jp_query.specs.declared.JoinTree.{JoinTree}
use Rattle.jp_query.specs.declared.Order.{Order}
use Rattle.jp_query.specs.declared.Output.{Output}
use Rattle.jp_query.specs.declared.Query.{Query}
use Rattle.jp_query.specs.declared.Expr.TheFolds.{map-Expr, map-Query, fold-roll-Expr, fold-roll-JoinTree, fold-roll-Order, fold-roll-Output, fold-roll-Query}
use Rattle.jp_query.specs.declared.Expr.TheViews.{roll-Expr, roll-Query}
use Rattle.jp_query.specs.Layers.{ExprLayer, QueryLayer}
use Rattle.jp_query.specs.Meaning.{Row, Env, ValueIn, Tuples, SortKey, RowsIn, in_place, expr_value, tree_tuples, order_key, output_value, query_rows, value_of, tuples_of, meaning}
use Rattle.jp_query.specs.Nullness.{Gone, Surely, expr_surely, surely_of}
use Rattle.jp_query.proofs.FoldLaws as laws
use lib.Count.{ones-ones, ones_cat}

-- a value and the rows of a query, in an environment
module _ (tables : ℕ → List Row) where
  abbrev sort_key_of : Order → SortKey
  sort_key_of = laws.of_order ValueIn Tuples SortKey ValueIn RowsIn (expr_value in_place) (tree_tuples tables) order_key output_value query_rows

  abbrev value_of_output : Output → ValueIn
  value_of_output = laws.of_output ValueIn Tuples SortKey ValueIn RowsIn (expr_value in_place) (tree_tuples tables) order_key output_value query_rows

  pub value_rolls : (x : ExprLayer) (env : Env) → value_of tables (roll-Expr x) env ≡ expr_value in_place (map-Expr Expr JoinTree Order Output Query ValueIn Tuples SortKey ValueIn RowsIn (value_of tables) (tuples_of tables) sort_key_of value_of_output (meaning tables) x) env
  value_rolls x env = ap (λ (v : ValueIn). v env) (fold-roll-Expr ValueIn Tuples SortKey ValueIn RowsIn (expr_value in_place) (tree_tuples tables) order_key output_value query_rows x)

  pub rows_roll : (x : QueryLayer) (env : Env) → meaning tables (roll-Query x) env ≡ query_rows (map-Query Expr JoinTree Order Output Query ValueIn Tuples SortKey ValueIn RowsIn (value_of tables) (tuples_of tables) sort_key_of value_of_output (meaning tables) x) env
  rows_roll x env = ap (λ (v : RowsIn). v env) (fold-roll-Query ValueIn Tuples SortKey ValueIn RowsIn (expr_value in_place) (tree_tuples tables) order_key output_value query_rows x)

pub ruleset meanings = (value_rolls, rows_roll, fold-roll-JoinTree, fold-roll-Order, fold-roll-Output)

-- what surely holds
pub surely_rolls : (gone : Gone) (x : ExprLayer) → surely_of gone (roll-Expr x) ≡ expr_surely gone (map-Expr Expr JoinTree Order Output Query Surely (Unit {0}) (Unit {0}) (Unit {0}) (Unit {0}) (surely_of gone) (laws.of_tree Surely (Unit {0}) (Unit {0}) (Unit {0}) (Unit {0}) (expr_surely gone) (λ t. tt) (λ o. tt) (λ o. tt) (λ q. tt)) (laws.of_order Surely (Unit {0}) (Unit {0}) (Unit {0}) (Unit {0}) (expr_surely gone) (λ t. tt) (λ o. tt) (λ o. tt) (λ q. tt)) (laws.of_output Surely (Unit {0}) (Unit {0}) (Unit {0}) (Unit {0}) (expr_surely gone) (λ t. tt) (λ o. tt) (λ o. tt) (λ q. tt)) (laws.of_query Surely (Unit {0}) (Unit {0}) (Unit {0}) (Unit {0}) (expr_surely gone) (λ t. tt) (λ o. tt) (λ o. tt) (λ q. tt)) x)
surely_rolls gone x = fold-roll-Expr Surely (Unit {0}) (Unit {0}) (Unit {0}) (Unit {0}) (expr_surely gone) (λ t. tt) (λ o. tt) (λ o. tt) (λ q. tt) x

-- ---- counts of relations

pub none_counted : count_ones 0 ≡ 0
none_counted = ones-ones 0

pub one_counted : count_ones 1 ≡ 1
one_counted = ones-ones 1

pub two_counted : count_ones 3 ≡ 2
two_counted = ones-ones 2

pub sixteen_counted : count_ones 65535 ≡ 16
sixteen_counted = ones-ones 16

pub seventeen_counted : count_ones 131071 ≡ 17
seventeen_counted = ones-ones 17

pub last_counted : count_ones (2 ^ 64) ≡ 1
unfolding lib.Count.ones
last_counted = ones_cat 64 1 0 (omega arith)

pub ruleset counts = (none_counted, one_counted, two_counted, sixteen_counted, seventeen_counted, last_counted)
