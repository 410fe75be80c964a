use Rattle.std.proofs.Common.{◌∙◌, ap, sym, fold}
use Rattle.jp_cost.specs.Steps.{by_member}
use Rattle.jp_cost.proofs.PickLaws.{members_one_by_one}
use Rattle.jp_cost.proofs.conditions.after_equalities.Goals as goal

pub returns-in-Some : goal.returns-in-Some
returns-in-Some c = rw c.in-Some.is (c.after_members.ensures
    ∙ ap (λ needs. fold (by_member c.args.problem.now c.args.set c.args.pick.now c.in-Some.constant needs) c.args.rows c.as_slice-members.result.now) c.nothing.ensures
    ∙ ap (fold (by_member c.args.problem.now c.args.set c.args.pick.now c.in-Some.constant 0) c.args.rows) c.as_slice-members.ensures
    ∙ sym (members_one_by_one c.args.problem.now c.args.set c.args.pick.now c.in-Some.constant 0 c.args.rows c.args.class.now.members))
