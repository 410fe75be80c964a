-- Queries without a Right join at any depth, in sub-selects and sublinks too. Folding exchanges the sides of a Right join
-- and makes it a Left join, so what the later rewritings and the planner take has none.
use Rattle.std.specs.Prelude.{◌≡◌, ◌&&◌, Bool, true, false}
use Rattle.jp_query.specs.declared.JoinKind.{JoinKind}
use Rattle.jp_query.specs.declared.JoinKind.TheVariants as join
use Rattle.jp_query.specs.Conditions.{all_true}
use Rattle.jp_query.specs.Layers.{Expr, JoinTree, Query, Expr-F, JoinTree-F, Order-F, Output-F, Query-F, fold-Expr, fold-JoinTree, fold-Query}
use Rattle.jp_query.specs.Parts.{parts, sublink_query, trees, conditions, leaf_query, option_part}

abbrev pub is_no_right : JoinKind → Bool
is_no_right join.Right = false
is_no_right _ = true

abbrev pub expr_without_right : Expr-F Bool Bool Bool Bool Bool → Bool
expr_without_right x = all_true (parts x) && all_true (option_part (sublink_query x))

abbrev pub tree_without_right : JoinTree-F Bool Bool Bool Bool Bool → Bool
tree_without_right (JoinTree-F.Join kind left right on) = is_no_right kind && (left && (right && all_true on))
tree_without_right t = all_true (trees t) && (all_true (conditions t) && all_true (option_part (leaf_query t)))

abbrev pub order_without_right : Order-F Bool Bool Bool Bool Bool → Bool
order_without_right order = order.expr

abbrev pub output_without_right : Output-F Bool Bool Bool Bool Bool → Bool
output_without_right output = output.expr

abbrev pub query_without_right : Query-F Bool Bool Bool Bool Bool → Bool
query_without_right q = all_true q.columns && (q.tree && (all_true q.conds && all_true q.order))

abbrev pub has_no_right_in_expr : Expr → Bool
has_no_right_in_expr = fold-Expr Bool Bool Bool Bool Bool expr_without_right tree_without_right order_without_right output_without_right query_without_right

abbrev pub has_no_right_in_tree : JoinTree → Bool
has_no_right_in_tree = fold-JoinTree Bool Bool Bool Bool Bool expr_without_right tree_without_right order_without_right output_without_right query_without_right

abbrev pub has_no_right : Query → Bool
has_no_right = fold-Query Bool Bool Bool Bool Bool expr_without_right tree_without_right order_without_right output_without_right query_without_right

abbrev pub HasNoRight : Query → Type 0
HasNoRight query = has_no_right query ≡ true
