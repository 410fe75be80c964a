use Rattle.std.proofs.Common.{◌≡◌, take}
use Rattle.jp_frame.specs.Maps.{both}
use Rattle.jp_joins.proofs.tuples.put_pair.Given as goal

abbrev pub invariant-places : goal.invariant-places
invariant-places l = l.pair.items ≡ both (take l.at l.left) (take l.at l.right)
