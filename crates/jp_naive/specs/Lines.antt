-- Lines that are gathered: rows of outputs with their sort keys.
use Rattle.std.specs.Prelude.{ℕ, List, map}
use Rattle.jp_query.specs.declared.Expr.{Expr}
use Rattle.jp_query.specs.declared.Order.{Order, out-Order}
use Rattle.jp_query.specs.declared.Output.{Output, out-Output}
use Rattle.jp_query.specs.declared.Query.{Query, out-Query}
use Rattle.jp_query.specs.InOrder.{output_of, key_of}
use Rattle.jp_query.specs.Meaning.{Row, Env, ValueIn, value_of, value_at, key_at}
use Rattle.jp_query.specs.Ordering.{Line}

abbrev pub values_of : (ℕ → List Row) → List Expr → List ValueIn
values_of tables exprs = map (value_of tables) exprs

abbrev pub outputs_at : (ℕ → List Row) → List Output → Env → Row
outputs_at tables columns env = map (value_at env) (map (output_of tables) columns)

abbrev pub keys_at : (ℕ → List Row) → List Order → Env → Row
keys_at tables order env = map (key_at env) (map (key_of tables) order)

abbrev pub output_expr : Output → Expr
output_expr output = (out-Output output).expr

abbrev pub order_expr : Order → Expr
order_expr order = (out-Order order).expr

-- the line of a query at an environment
abbrev pub line_of_query : (ℕ → List Row) → Query → Env → Line
line_of_query tables query env = record { outputs = outputs_at tables (out-Query query).columns env; keys = keys_at tables (out-Query query).order env }
