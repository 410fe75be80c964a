use Rattle.std.proofs.Common.{◌≡◌, ◌+◌, ◌*◌, fold, take}
use Rattle.jp_cost.specs.Estimates.{estimate_in}
use Rattle.jp_cost.specs.Rounds.{after_outer}
use Rattle.jp_cost.proofs.estimates.+estimates.Given as goal

abbrev pub invariant-after_joins-joins : goal.invariant-after_joins-joins
invariant-after_joins-joins l = l.rows ≡ fold (after_outer l.problem l.set (estimate_in l.rounds l.problem)) l.initial.rows (take l.join-index l.problem.joins)

abbrev pub decreases-after_join : goal.decreases-after_join
decreases-after_join l = l.rounds * 4 + 2

abbrev pub decreases-after_joins : goal.decreases-after_joins
decreases-after_joins l = l.rounds * 4 + 3

abbrev pub decreases-estimate_in : goal.decreases-estimate_in
decreases-estimate_in l = l.rounds * 4

abbrev pub decreases-joined : goal.decreases-joined
decreases-joined l = l.rounds * 4 + 1
