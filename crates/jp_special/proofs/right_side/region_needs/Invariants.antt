use Rattle.std.proofs.Common.{◌≡◌, take}
use Rattle.jp_problem.specs.MinimumSets.{region_needs}
use Rattle.jp_special.proofs.right_side.region_needs.Given as goal

abbrev pub invariant-clauses : goal.invariant-clauses
invariant-clauses l = l.needs ≡ region_needs (take l.c-index l.clauses) l.joins l.s
