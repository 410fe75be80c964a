use Rattle.std.proofs.Common.{◌≡◌, ◌++◌, map, length}
use Rattle.std.specs.Vec.Iter.{into_iter_items, into_iter_len}
use Rattle.jp_fulls.specs.Leaves.{leaves_from, numbers_of}
use Rattle.jp_fulls.proofs.apart.taken_apart.Given as goal

abbrev pub invariant-sources : goal.invariant-sources
invariant-sources l = record {
  leaves : l.leaves.items ++ leaves_from l.layout (length l.numbers.items) (into_iter_items l.source-iterator) ≡ leaves_from l.layout 0 l.fn.sources.items;
  numbers : l.numbers.items ++ map numbers_of (into_iter_items l.source-iterator) ≡ map numbers_of l.fn.sources.items;
  count : into_iter_len l.source-iterator ≡ length (into_iter_items l.source-iterator);
}
