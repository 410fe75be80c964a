use Rattle.std.proofs.Common.{◌≡◌, drop}
use Rattle.jp_problem.specs.Problems.{join_of}
use Rattle.jp_problem.proofs.regions.join_of.Given as goal

abbrev pub invariant-joins : goal.invariant-joins
invariant-joins l = join_of (drop l.join-index l.joins) l.number ≡ join_of l.joins l.number
