-- The values of expressions at the maps of a step.
use Rattle.std.specs.Prelude.{List, All, map}
use Rattle.jp_query.specs.declared.Expr.{Expr}
use Rattle.jp_query.specs.Meaning.{Row}
use Rattle.jp_query.specs.Ordering.{Line}
use Rattle.jp_frame.specs.Maps.{Map}
use Rattle.jp_joins.specs.Conditions.{CanEvaluateAt}
use Rattle.jp_joins.specs.Meant.{Meant, value_at}

abbrev pub values_at : Meant → List Expr → Map → Row
values_at meant exprs m = map (value_at meant m) exprs

abbrev pub line_of : Meant → List Expr → List Expr → Map → Line
line_of meant outputs keys m = record { outputs = values_at meant outputs m; keys = values_at meant keys m }

-- each of the expressions can be evaluated at each map
abbrev pub AreEvaluable : Meant → List Expr → Type 0
AreEvaluable meant exprs = (m : Map) → All (CanEvaluateAt meant m) exprs
