use Rattle.std.proofs.Common.{◌-◌, ◌^◌}
use Rattle.jp_problem.proofs.ClosureLaws.{IsOnTheWay}
use Rattle.jp_problem.proofs.closing.closure.Given as goal

abbrev pub invariant-rounds : goal.invariant-rounds
invariant-rounds l = IsOnTheWay l.rules l.fn.seed l.set

abbrev pub decreases-rounds : goal.decreases-rounds
decreases-rounds l = 2 ^ 64 - l.set
