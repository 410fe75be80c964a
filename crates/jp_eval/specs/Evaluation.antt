-- When an expression can be evaluated.
use Rattle.std.specs.Prelude.{ℕ, ◌≡◌, true, List}
use Rattle.jp_query.specs.declared.Expr.{Expr}
use Rattle.jp_query.specs.Meaning.{Row, Env}
use Rattle.jp_query.specs.Scopes.{Schema, Scope}
use Rattle.jp_query.specs.Typing.{IsTypedExpr}
use Rattle.jp_query.specs.Conditions.{judged_expr, knows_columns, IsBoundedExpr}
use Rattle.jp_query.specs.Fitting.{FitsLent}

-- Over some schema and inside some scope the expression is typed, its columns are those of the scope, and no bound in it
-- passes 128 bits; and the environment and the rows lent for its sublinks fit it there.
pub record CanEvaluate (rows : ℕ → List Row) (expr : Expr) (env : Env) : Type 0 where
  pub schema : Schema
  pub scope : Scope
  pub typed : IsTypedExpr expr
  pub columns : (judged_expr schema knows_columns expr).passes scope ≡ true
  pub bounded : IsBoundedExpr schema scope expr
  pub fits : FitsLent scope rows expr env
