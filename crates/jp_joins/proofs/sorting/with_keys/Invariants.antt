use Rattle.std.proofs.Common.{◌≡◌, map, take}
use Rattle.std.specs.Prelude.{All}
use Rattle.jp_joins.specs.Sorting.{IsKeyed, map_of_keyed}
use Rattle.jp_joins.specs.Tuples.{maps_of}
use Rattle.jp_joins.proofs.sorting.with_keys.Given as goal

abbrev pub invariant-tuples : goal.invariant-tuples
invariant-tuples g l = record {
  tuples : map map_of_keyed l.list.items ≡ maps_of (take l.at l.tuples);
  keys : All (IsKeyed (g.E.TupleEnv.meant l.fn.env) l.side) l.list.items;
}
