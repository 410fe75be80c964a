use Rattle.std.proofs.Common.{◌≡◌, ◌++◌, map, length}
use Rattle.std.specs.Vec.Iter.{into_iter_items, into_iter_len}
use Rattle.jp_fulls.specs.Leaves.{part_of_leaf}
use Rattle.jp_fulls.proofs.apart.parts_of.Given as goal

abbrev pub invariant-leaves : goal.invariant-leaves
invariant-leaves l = record {
  parts : l.parts.items ++ map part_of_leaf (into_iter_items l.leaf-iterator) ≡ map part_of_leaf l.fn.leaves.items;
  count : into_iter_len l.leaf-iterator ≡ length (into_iter_items l.leaf-iterator);
}
