use Rattle.std.proofs.Common.{◌≡◌, take}
use Rattle.jp_joins.specs.Keys.{values_at}
use Rattle.jp_joins.specs.Tuples.{maps_of}
use Rattle.jp_joins.proofs.keys.made_values.Given as goal

abbrev pub invariant-tuples : goal.invariant-tuples
invariant-tuples g l = l.values.items ≡ values_at (g.E.TupleEnv.meant l.fn.env) l.side (maps_of (take l.tuple-index l.tuples))
