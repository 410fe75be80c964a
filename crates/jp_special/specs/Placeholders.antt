-- The relation sets of the placeholders in each part of a query, sublinks and sub-selects included.
use Rattle.std.specs.Prelude.{ℕ, Bool, List, [], ◌++◌, map, Option, Some, None}
use Rattle.jp_query.specs.declared.Expr.{Expr}
use Rattle.jp_query.specs.declared.Expr.TheFolds.{fold-Order, fold-Output}
use Rattle.jp_query.specs.declared.JoinTree.{JoinTree}
use Rattle.jp_query.specs.declared.Order.{Order}
use Rattle.jp_query.specs.declared.Output.{Output}
use Rattle.jp_query.specs.declared.Query.{Query}
use Rattle.jp_query.specs.Parts.{all_in, gathered_in_tree, gathered_in_query, node_placeholder, nothing_of_leaf, expr_gives, tree_gives, order_gives, output_gives, query_gives}
use Rattle.jp_problem.specs.Blocks.{placeholders_in}

abbrev pub in_tree : JoinTree → List ℕ
in_tree = gathered_in_tree ℕ node_placeholder nothing_of_leaf

abbrev pub in_query : Query → List ℕ
in_query = gathered_in_query ℕ node_placeholder nothing_of_leaf

abbrev pub in_order : Order → List ℕ
in_order = fold-Order (List ℕ) (List ℕ) (List ℕ) (List ℕ) (List ℕ) (expr_gives ℕ node_placeholder nothing_of_leaf) (tree_gives ℕ node_placeholder nothing_of_leaf) (order_gives ℕ node_placeholder nothing_of_leaf) (output_gives ℕ node_placeholder nothing_of_leaf) (query_gives ℕ node_placeholder nothing_of_leaf)

abbrev pub in_output : Output → List ℕ
in_output = fold-Output (List ℕ) (List ℕ) (List ℕ) (List ℕ) (List ℕ) (expr_gives ℕ node_placeholder nothing_of_leaf) (tree_gives ℕ node_placeholder nothing_of_leaf) (order_gives ℕ node_placeholder nothing_of_leaf) (output_gives ℕ node_placeholder nothing_of_leaf) (query_gives ℕ node_placeholder nothing_of_leaf)

abbrev pub in_term : Bool × Expr → List ℕ
in_term term = placeholders_in term.1

abbrev pub in_arm : Expr × Expr → List ℕ
in_arm arm = placeholders_in arm.0 ++ placeholders_in arm.1

abbrev pub in_option : Option Expr → List ℕ
in_option (Some e) = placeholders_in e
in_option None = []

-- of a list of parts
abbrev pub in_each : {X : Type 0} → (X → List ℕ) → List X → List ℕ
in_each f xs = all_in (map f xs)
