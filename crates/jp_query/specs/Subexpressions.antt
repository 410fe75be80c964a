-- The expressions that stand in a query, at every depth, and the sublinks that stand in an expression.
use Rattle.std.specs.Prelude.{List, [], ◌∷◌, ◌++◌, map}
use Rattle.jp_query.specs.declared.Expr.TheFolds.{map-Expr, para-Expr, para-Query}
use Rattle.jp_query.specs.declared.Expr.TheViews.{roll-Expr}
use Rattle.jp_query.specs.Freshness.{Found, expr_found, tree_found, order_found, output_found, query_found}
use Rattle.jp_query.specs.Layers.{Expr, JoinTree, Order, Output, Query, Expr-F, JoinTree-F, Order-F, Output-F, Query-F}
use Rattle.jp_query.specs.Parts.{all_in, parts, sublink_query, trees, conditions, leaf_query, option_part}

module _ {A B C D F : Type 0} where
  -- an expression from its parts, each of which stands beside a value of it
  abbrev pub whole : Expr-F (Expr × A) (JoinTree × B) (Order × C) (Output × D) (Query × F) → Expr
  whole x = roll-Expr (map-Expr (Expr × A) (JoinTree × B) (Order × C) (Output × D) (Query × F) Expr JoinTree Order Output Query (λ e. e.0) (λ t. t.0) (λ o. o.0) (λ u. u.0) (λ q. q.0) x)

abbrev pub Exprs : Type 0
Exprs = List Expr

module _ {A : Type 0} where
  abbrev pub exprs_beside : A × Exprs → Exprs
  exprs_beside part = part.1

abbrev pub expr_exprs : Expr-F (Expr × Exprs) (JoinTree × Exprs) (Order × Exprs) (Output × Exprs) (Query × Exprs) → Exprs
expr_exprs x = whole x ∷ (all_in (map exprs_beside (parts x)) ++ all_in (map exprs_beside (option_part (sublink_query x))))

abbrev pub tree_exprs : JoinTree-F (Expr × Exprs) (JoinTree × Exprs) (Order × Exprs) (Output × Exprs) (Query × Exprs) → Exprs
tree_exprs t = all_in (map exprs_beside (trees t)) ++ (all_in (map exprs_beside (conditions t)) ++ all_in (map exprs_beside (option_part (leaf_query t))))

abbrev pub order_exprs : Order-F (Expr × Exprs) (JoinTree × Exprs) (Order × Exprs) (Output × Exprs) (Query × Exprs) → Exprs
order_exprs o = o.expr.1

abbrev pub output_exprs : Output-F (Expr × Exprs) (JoinTree × Exprs) (Order × Exprs) (Output × Exprs) (Query × Exprs) → Exprs
output_exprs o = o.expr.1

abbrev pub query_exprs : Query-F (Expr × Exprs) (JoinTree × Exprs) (Order × Exprs) (Output × Exprs) (Query × Exprs) → Exprs
query_exprs q = all_in (map exprs_beside q.columns) ++ (q.tree.1 ++ (all_in (map exprs_beside q.conds) ++ all_in (map exprs_beside q.order)))

-- every expression of a query: its outputs', its conditions', its ORDER BY items', their parts, and those in sublinks and
-- sub-selects
abbrev pub expressions_in : Query → Exprs
expressions_in = para-Query Exprs Exprs Exprs Exprs Exprs expr_exprs tree_exprs order_exprs output_exprs query_exprs

-- the sublinks of an expression, itself among them, and those inside their queries
abbrev pub sublinks_of : Expr → Found
sublinks_of = para-Expr Found Found Found Found Found expr_found tree_found order_found output_found query_found
