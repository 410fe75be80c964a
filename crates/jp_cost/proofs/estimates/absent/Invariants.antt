use Rattle.std.proofs.Common.{◌≡◌, fold, take}
use Rattle.jp_cost.specs.Rounds.{with_right}
use Rattle.jp_cost.proofs.estimates.absent.Given as goal

abbrev pub invariant-joins : goal.invariant-joins
invariant-joins l = l.items ≡ fold (with_right l.set) 0 (take l.join-index l.joins)
