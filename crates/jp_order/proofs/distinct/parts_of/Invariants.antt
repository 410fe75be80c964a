use Rattle.std.proofs.Common.{◌≡◌, map, take}
use Rattle.jp_order.specs.Keys.{value_of_part}
use Rattle.jp_order.proofs.distinct.parts_of.Given as goal

abbrev pub invariant-values : goal.invariant-values
invariant-values l = map value_of_part l.parts.items ≡ take l.value-index l.row
