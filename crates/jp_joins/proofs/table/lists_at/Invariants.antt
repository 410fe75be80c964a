use Rattle.std.proofs.Common.{◌≡◌, map, take}
use Rattle.jp_joins.specs.Keys.{lists_of, table_at, values_at}
use Rattle.jp_joins.specs.Tuples.{maps_of}
use Rattle.jp_joins.proofs.table.lists_at.Given as goal

abbrev pub invariant-tuples : goal.invariant-tuples
invariant-tuples g l = lists_of l.lists.items ≡ map (table_at l.table) (values_at (g.E.TupleEnv.meant l.fn.env) l.side (maps_of (take l.at l.tuples)))
