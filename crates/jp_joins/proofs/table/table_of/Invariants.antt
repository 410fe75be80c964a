use Rattle.std.proofs.Common.{◌≡◌, filter, take}
use Rattle.jp_base.specs.declared.values.Value.{Value}
use Rattle.jp_joins.specs.Keys.{table_at, tuple_has}
use Rattle.jp_joins.proofs.table.table_of.Given as goal

abbrev pub invariant-tuples : goal.invariant-tuples
invariant-tuples g l = (v : Value) → table_at l.table v ≡ filter (tuple_has (g.E.TupleEnv.meant l.fn.env) l.side v) (take l.at l.tuples)
