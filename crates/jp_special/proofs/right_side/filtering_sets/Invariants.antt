use Rattle.std.proofs.Common.{◌≡◌, take}
use Rattle.jp_problem.specs.MinimumSets.{filtering_sets}
use Rattle.jp_special.proofs.right_side.filtering_sets.Given as goal

abbrev pub invariant-joins : goal.invariant-joins
invariant-joins l = l.sets ≡ filtering_sets (take l.v-index l.joins) l.s
