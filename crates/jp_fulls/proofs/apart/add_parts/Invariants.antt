use Rattle.std.proofs.Common.{◌≡◌, ◌+◌, ◌++◌, length}
use Rattle.std.specs.Vec.Iter.{into_iter_items, into_iter_len}
use Rattle.jp_fulls.specs.Leaves.{leaves_of_parts}
use Rattle.jp_fulls.proofs.apart.add_parts.Given as goal

abbrev pub invariant-parts : goal.invariant-parts
invariant-parts l = record {
  leaves : l.leaves.items ++ leaves_of_parts l.layout l.item l.rels l.place (into_iter_items l.part-iterator) ≡ l.initial.leaves.items ++ leaves_of_parts l.layout l.item l.rels 0 l.fn.parts.items;
  places : l.place + length (into_iter_items l.part-iterator) ≡ length l.fn.parts.items;
  count : into_iter_len l.part-iterator ≡ length (into_iter_items l.part-iterator);
}
