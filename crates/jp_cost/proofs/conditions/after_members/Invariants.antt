use Rattle.std.proofs.Common.{◌≡◌, fold, take}
use Rattle.jp_cost.specs.Steps.{by_member}
use Rattle.jp_cost.proofs.conditions.after_members.Given as goal

abbrev pub invariant-members : goal.invariant-members
invariant-members l = l.rows ≡ fold (by_member l.problem l.set l.pick l.first l.needs) l.initial.rows (take l.member-index l.members)
