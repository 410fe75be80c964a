use Rattle.std.proofs.Common.{◌≡◌, take}
use Rattle.jp_base.specs.declared.values.Value.{Value}
use Rattle.jp_joins.specs.Keys.{has_value, places_where, table_at}
use Rattle.jp_joins.specs.Tuples.{maps_of}
use Rattle.jp_joins.proofs.table.places_of.Given as goal

abbrev pub invariant-tuples : goal.invariant-tuples
invariant-tuples g l = (v : Value) → table_at l.table v ≡ places_where (has_value (g.E.TupleEnv.meant l.fn.env) l.side v) 0 (maps_of (take l.at l.tuples))
