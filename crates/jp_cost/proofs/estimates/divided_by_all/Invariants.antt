use Rattle.std.proofs.Common.{◌≡◌, take}
use Rattle.jp_cost.specs.Estimates.{divided_by_all}
use Rattle.jp_cost.proofs.estimates.divided_by_all.Given as goal

abbrev pub invariant-conditions : goal.invariant-conditions
invariant-conditions l = l.rows ≡ divided_by_all l.problem l.initial.rows (take l.condition-index l.conditions)
