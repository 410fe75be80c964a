use Rattle.std.proofs.Common.{◌≡◌, map, take}
use Rattle.jp_joins.specs.Tuples.{map_of}
use Rattle.jp_fulls.specs.Leaves.{number_at}
use Rattle.jp_fulls.proofs.sides.put_numbers.Given as goal

abbrev pub invariant-leaves : goal.invariant-leaves
invariant-leaves l = l.list.items ≡ map (number_at l.numbers l.hidden (map_of l.tuple)) (take l.leaf-index l.leaves)
