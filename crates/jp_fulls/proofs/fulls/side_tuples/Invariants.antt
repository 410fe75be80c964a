use Rattle.std.proofs.Common.{◌≡◌}
use Rattle.jp_frame.specs.Methods.{rows_of_item}
use Rattle.jp_joins.specs.Tuples.{maps_of}
use Rattle.jp_fulls.proofs.fulls.side_tuples.Given as goal

abbrev pub invariant-rows : goal.invariant-rows
invariant-rows l = maps_of l.tuples.items ≡ rows_of_item 2 l.side 0 l.row
