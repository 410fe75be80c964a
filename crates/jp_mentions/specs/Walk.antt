-- The tables of the base leaves in each part of a query, in the order in which they are written.
use Rattle.std.specs.Prelude.{ℕ, ◌==◌, Bool, List, [], ◌∷◌, ◌++◌, Option, Some, None, if◌then◌else◌}
use Rattle.std.specs.List.{list_any}
use Rattle.jp_query.specs.declared.Expr.{Expr}
use Rattle.jp_query.specs.declared.JoinTree.{JoinTree}
use Rattle.jp_query.specs.declared.Order.{Order}
use Rattle.jp_query.specs.declared.Output.{Output}
use Rattle.jp_query.specs.declared.Query.{Query}
use Rattle.jp_query.specs.declared.Expr.TheFolds.{fold-Order, fold-Output}
use Rattle.jp_query.specs.Parts.{base_table, nothing_of_node, expr_gives, tree_gives, order_gives, output_gives, query_gives, gathered, gathered_in_tree, tables_in}

unfoldable pub tables_of : Expr → List ℕ
tables_of = gathered ℕ nothing_of_node base_table

unfoldable pub tables_of_tree : JoinTree → List ℕ
tables_of_tree = gathered_in_tree ℕ nothing_of_node base_table

unfoldable pub tables_of_order : Order → List ℕ
tables_of_order = fold-Order (List ℕ) (List ℕ) (List ℕ) (List ℕ) (List ℕ) (expr_gives ℕ nothing_of_node base_table) (tree_gives ℕ nothing_of_node base_table) (order_gives ℕ nothing_of_node base_table) (output_gives ℕ nothing_of_node base_table) (query_gives ℕ nothing_of_node base_table)

unfoldable pub tables_of_output : Output → List ℕ
tables_of_output = fold-Output (List ℕ) (List ℕ) (List ℕ) (List ℕ) (List ℕ) (expr_gives ℕ nothing_of_node base_table) (tree_gives ℕ nothing_of_node base_table) (order_gives ℕ nothing_of_node base_table) (output_gives ℕ nothing_of_node base_table) (query_gives ℕ nothing_of_node base_table)

unfoldable pub tables_of_query : Query → List ℕ
tables_of_query = tables_in

abbrev pub tables_of_term : Bool × Expr → List ℕ
tables_of_term term = tables_of term.1

abbrev pub tables_of_arm : Expr × Expr → List ℕ
tables_of_arm arm = tables_of arm.0 ++ tables_of arm.1

abbrev pub tables_of_option : Option Expr → List ℕ
tables_of_option (Some e) = tables_of e
tables_of_option None = []

-- the numbers, and behind them one that isn't among them
abbrev pub with_new : List ℕ → ℕ → List ℕ
with_new numbers n = if list_any (◌==◌ n) numbers then numbers else numbers ++ n ∷ []
