use Rattle.std.proofs.Common.{◌∙◌}
use Rattle.jp_cost.proofs.PickLaws.{none_first, some_first}
use Rattle.jp_cost.proofs.conditions.after_first.Goals as goal

pub returns-in-None : goal.returns-in-None
returns-in-None c = none_first c.args.problem.now c.args.set c.args.pick.now c.args.rows c.args.members.now c.from_available.result.now c.from_available.ensures c.in-None.ensures.cases

pub returns-in-Some : goal.returns-in-Some
returns-in-Some c = c.after_members.ensures ∙ some_first c.args.problem.now c.args.set c.args.pick.now c.args.rows c.args.members.now c.from_available.result.now c.in-Some.others.now c.in-Some.first.now c.from_available.ensures c.in-Some.ensures.cases.0
