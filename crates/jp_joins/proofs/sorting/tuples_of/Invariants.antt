use Rattle.std.proofs.Common.{◌≡◌, map, take}
use Rattle.jp_joins.specs.Sorting.{tuple_of_keyed}
use Rattle.jp_joins.proofs.sorting.tuples_of.Given as goal

abbrev pub invariant-list : goal.invariant-list
invariant-list l = l.tuples.items ≡ map tuple_of_keyed (take l.keyed-index l.list)
