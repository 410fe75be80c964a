use Rattle.std.proofs.Common.{◌≡◌, ◌++◌, drop}
use Rattle.jp_naive.specs.Joining.{struck}
use Rattle.jp_naive.proofs.joins.without.Given as goal

abbrev pub invariant-marks : goal.invariant-marks
invariant-marks l = l.list.items ++ struck (drop l.at l.unmatched) (drop l.at l.marks) ≡ struck l.unmatched l.marks
