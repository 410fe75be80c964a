-- The join trees that stand in a query, at every depth.
use Rattle.std.specs.Prelude.{List, ◌∷◌, ◌++◌, map}
use Rattle.jp_query.specs.declared.Expr.{Expr}
use Rattle.jp_query.specs.declared.JoinTree.{JoinTree}
use Rattle.jp_query.specs.declared.Order.{Order}
use Rattle.jp_query.specs.declared.Output.{Output}
use Rattle.jp_query.specs.declared.Query.{Query}
use Rattle.jp_query.specs.declared.Expr.TheOpen.{Expr-F, JoinTree-F, Order-F, Output-F, Query-F}
use Rattle.jp_query.specs.declared.Expr.TheFolds.{map-JoinTree, para-Query}
use Rattle.jp_query.specs.declared.Expr.TheViews.{roll-JoinTree}
use Rattle.jp_query.specs.Parts.{all_in, parts, sublink_query, trees, conditions, leaf_query, option_part}

abbrev pub Trees : Type 0
Trees = List JoinTree

module _ {A : Type 0} where
  abbrev pub trees_beside : A × Trees → Trees
  trees_beside part = part.1

-- a tree from its parts, each of which stands beside its trees
abbrev pub whole_tree : JoinTree-F (Expr × Trees) (JoinTree × Trees) (Order × Trees) (Output × Trees) (Query × Trees) → JoinTree
whole_tree t = roll-JoinTree (map-JoinTree (Expr × Trees) (JoinTree × Trees) (Order × Trees) (Output × Trees) (Query × Trees) Expr JoinTree Order Output Query (λ e. e.0) (λ t. t.0) (λ o. o.0) (λ u. u.0) (λ q. q.0) t)

abbrev pub expr_trees : Expr-F (Expr × Trees) (JoinTree × Trees) (Order × Trees) (Output × Trees) (Query × Trees) → Trees
expr_trees x = all_in (map trees_beside (parts x)) ++ all_in (map trees_beside (option_part (sublink_query x)))

abbrev pub tree_trees : JoinTree-F (Expr × Trees) (JoinTree × Trees) (Order × Trees) (Output × Trees) (Query × Trees) → Trees
tree_trees t = whole_tree t ∷ (all_in (map trees_beside (trees t)) ++ (all_in (map trees_beside (conditions t)) ++ all_in (map trees_beside (option_part (leaf_query t)))))

abbrev pub order_trees : Order-F (Expr × Trees) (JoinTree × Trees) (Order × Trees) (Output × Trees) (Query × Trees) → Trees
order_trees o = o.expr.1

abbrev pub output_trees : Output-F (Expr × Trees) (JoinTree × Trees) (Order × Trees) (Output × Trees) (Query × Trees) → Trees
output_trees u = u.expr.1

abbrev pub query_trees : Query-F (Expr × Trees) (JoinTree × Trees) (Order × Trees) (Output × Trees) (Query × Trees) → Trees
query_trees q = all_in (map trees_beside q.columns) ++ (q.tree.1 ++ (all_in (map trees_beside q.conds) ++ all_in (map trees_beside q.order)))

-- its FROM tree, the trees inside that one, and those of its sublinks and sub-selects
abbrev pub trees_inside : Query → Trees
trees_inside = para-Query Trees Trees Trees Trees Trees expr_trees tree_trees order_trees output_trees query_trees
