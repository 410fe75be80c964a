-- Expressions that are lent, and the numbers of their sublinks.
use Rattle.std.specs.Prelude.{ℕ, List, map}
use Rattle.std.specs.Borrow.{Bor}
use Rattle.jp_query.specs.declared.Expr.{Expr}
use Rattle.jp_query.specs.Outermost.{Outer}

abbrev pub lent_expr : Bor Expr → Expr
lent_expr e = e.now

abbrev pub lent_exprs : List (Bor Expr) → List Expr
lent_exprs es = map lent_expr es

abbrev pub sublink_number : Outer → ℕ
sublink_number sublink = sublink.number
