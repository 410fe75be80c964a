-- What ORDER BY sorts by under DISTINCT.
use Rattle.std.specs.Prelude.{◌≡◌, true, map, All, Contains}
use Rattle.jp_query.specs.declared.Expr.{Expr}
use Rattle.jp_query.specs.declared.Order.{Order, out-Order}
use Rattle.jp_query.specs.declared.Output.{Output, out-Output}
use Rattle.jp_query.specs.declared.Query.{Query, out-Query}

abbrev pub expr_of_output : Output → Expr
expr_of_output output = (out-Output output).expr

abbrev pub expr_of_order : Order → Expr
expr_of_order order = (out-Order order).expr

-- Where a query drops equal rows, each ORDER BY item is the expression of an output. So equal rows have equal keys, and it
-- makes no difference which of them stays.
abbrev pub SortsBySelected : Query → Type 0
SortsBySelected query = (out-Query query).distinct ≡ true → All (Contains (map expr_of_output (out-Query query).columns)) (map expr_of_order (out-Query query).order)
