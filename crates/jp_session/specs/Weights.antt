-- A number for each query that is greater than those of all parts that the query's block uses, together.
use Rattle.std.specs.Prelude.{ℕ, ◌+◌, List, [], ◌∷◌}
use Rattle.jp_query.specs.declared.Expr.{Expr}
use Rattle.jp_query.specs.declared.JoinTree.{JoinTree}
use Rattle.jp_query.specs.declared.Order.{Order}
use Rattle.jp_query.specs.declared.Output.{Output}
use Rattle.jp_query.specs.declared.Query.{Query}
use Rattle.jp_query.specs.declared.Expr.TheOpen.{Expr-F, JoinTree-F, Order-F, Output-F, Query-F}
use Rattle.jp_query.specs.declared.Expr.TheFolds.{fold-Expr, fold-JoinTree, fold-Order, fold-Output, fold-Query}
use Rattle.jp_query.specs.Parts.{parts, sublink_query, trees, conditions, leaf_query, option_part}

abbrev pub total : List ℕ → ℕ
total [] = 0
total (n ∷ ns) = n + total ns

abbrev pub expr_weight : Expr-F ℕ ℕ ℕ ℕ ℕ → ℕ
expr_weight x = total (parts x) + total (option_part (sublink_query x))

-- a Full join has two sides, each of which is a block
abbrev pub tree_weight : JoinTree-F ℕ ℕ ℕ ℕ ℕ → ℕ
tree_weight t = 2 + (total (trees t) + (total (conditions t) + total (option_part (leaf_query t))))

abbrev pub order_weight : Order-F ℕ ℕ ℕ ℕ ℕ → ℕ
order_weight o = o.expr

abbrev pub output_weight : Output-F ℕ ℕ ℕ ℕ ℕ → ℕ
output_weight u = u.expr

abbrev pub query_weight : Query-F ℕ ℕ ℕ ℕ ℕ → ℕ
query_weight q = 1 + (total q.columns + (q.tree + (total q.conds + total q.order)))

unfoldable pub weight_of : Expr → ℕ
weight_of = fold-Expr ℕ ℕ ℕ ℕ ℕ expr_weight tree_weight order_weight output_weight query_weight

unfoldable pub weight_of_tree : JoinTree → ℕ
weight_of_tree = fold-JoinTree ℕ ℕ ℕ ℕ ℕ expr_weight tree_weight order_weight output_weight query_weight

unfoldable pub weight_of_order : Order → ℕ
weight_of_order = fold-Order ℕ ℕ ℕ ℕ ℕ expr_weight tree_weight order_weight output_weight query_weight

unfoldable pub weight_of_output : Output → ℕ
weight_of_output = fold-Output ℕ ℕ ℕ ℕ ℕ expr_weight tree_weight order_weight output_weight query_weight

unfoldable pub weight_of_query : Query → ℕ
weight_of_query = fold-Query ℕ ℕ ℕ ℕ ℕ expr_weight tree_weight order_weight output_weight query_weight
