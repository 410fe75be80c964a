use Rattle.std.proofs.Common.{◌≡◌, ◌++◌, map, take}
use Rattle.jp_joins.specs.Tuples.{maps_of}
use Rattle.jp_fulls.specs.Leaves.{numbers_at}
use Rattle.jp_fulls.proofs.sides.add_numbers.Given as goal

abbrev pub invariant-tuples : goal.invariant-tuples
invariant-tuples l = record {
  width : l.numbers.width ≡ l.initial.numbers.width;
  list : l.numbers.list ≡ l.initial.numbers.list ++ map (numbers_at l.apart.numbers.items l.apart.leaves.items l.hidden) (maps_of (take l.tuple-index l.tuples));
}
