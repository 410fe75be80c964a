-- What ORDER BY gives, put together from what its items give.
use Rattle.std.specs.Prelude.{Bool, true, false, List, [], ◌∷◌, Ok}
use Rattle.jp_ast.specs.declared.tree.Ast.{Ast}
use Rattle.jp_ast.specs.declared.tree.OrderAst.{OrderAst}
use Rattle.jp_catalog.specs.declared.types.Catalog.{Catalog}
use Rattle.jp_query.specs.declared.Expr.{Expr}
use Rattle.jp_query.specs.declared.Order.{Order}
use Rattle.jp_query.specs.declared.Output.{Output}
use Rattle.jp_resolution.specs.declared.words.Counts.{Counts}
use Rattle.jp_resolution.specs.Answers.{Answer, ◌>>=◌}
use Rattle.jp_resolution.specs.Counting.{Levels, none, both}
use Rattle.jp_resolution.specs.Ordering.{Written, as_number, as_literal, item_expr, expression}
use Rattle.jp_resolution.specs.Resolving.{meant_by, order_of}
use Rattle.jp_resolve.specs.Walk.{expr_in, counts_of_expr, place_of_expr}

unfoldable pub written_of_expr : Catalog → Ast → Written
written_of_expr catalog ast = (meant_by catalog ast).written

-- a number or another literal, without a sign
abbrev pub is_bare_literal : Written → Bool
is_bare_literal (as_number n) = true
is_bare_literal as_literal = true
is_bare_literal _ = false

module _ (catalog : Catalog) (distinct : Bool) (outputs : List Output) where
  abbrev pub order_expr_in : Ast → Levels → Counts → Answer Expr
  order_expr_in ast levels before = item_expr (place_of_expr catalog ast) distinct outputs (expr_in catalog ast levels before) (written_of_expr catalog ast)

  -- an item that is no output
  abbrev pub plain_in : Ast → Levels → Counts → Answer Expr
  plain_in ast levels before = expression (place_of_expr catalog ast) distinct outputs (expr_in catalog ast levels before)

  abbrev pub order_in : OrderAst → Levels → Counts → Answer Order
  order_in order levels before = order_expr_in order.expr levels before >>= order_of order.desc order.nulls_first

  abbrev pub orders_in : List OrderAst → Levels → Counts → Answer (List Order)
  orders_in [] levels before = Ok []
  orders_in (order ∷ orders) levels before = do
    x ← order_in order levels before
    xs ← orders_in orders levels (both before (counts_of_expr catalog order.expr))
    Ok (x ∷ xs)

module _ (catalog : Catalog) where
  abbrev pub counts_of_orders : List OrderAst → Counts
  counts_of_orders [] = none
  counts_of_orders (order ∷ orders) = both (counts_of_expr catalog order.expr) (counts_of_orders orders)
