use Rattle.std.proofs.Common.{◌≡◌}
use Rattle.jp_naive.specs.Joining.{absent}
use Rattle.jp_naive.proofs.joins.nowhere.Given as goal

abbrev pub invariant-leaves : goal.invariant-leaves
invariant-leaves l = l.list.items ≡ absent l.counter
