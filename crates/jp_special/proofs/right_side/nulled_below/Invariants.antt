use Rattle.std.proofs.Common.{◌≡◌, take}
use Rattle.jp_problem.specs.MinimumSets.{nulled_below}
use Rattle.jp_special.proofs.right_side.nulled_below.Given as goal

abbrev pub invariant-joins : goal.invariant-joins
invariant-joins l = l.nulled ≡ nulled_below (take l.t-index l.joins) l.s
