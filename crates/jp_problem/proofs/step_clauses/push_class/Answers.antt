use Rattle.std.proofs.Common.{◌≡◌, ◌∙◌, ◌++◌, ap, sym, subst, OnOk, Some}
use Rattle.jp_problem.specs.StepClauses.{of_constant, ranked_from}
use Rattle.jp_problem.proofs.PushLaws.{constants}
use Rattle.jp_problem.proofs.step_clauses.push_class.Goals as goal

pub returns-in-Some : goal.returns-in-Some
returns-in-Some c =
    let stage = c.args.stage.now in
    let ms = c.args.class.now.members in
    let with_members = subst (λ l. OnOk c.push_with_constant.result (c.push_with_constant.new.list ≡ c.args.list.now ++ l)) (constants stage c.in-Some.constant 0 c.as_slice-members.result.now) c.push_with_constant.ensures in
    subst (λ l. OnOk c.push_with_constant.result (c.push_with_constant.new.list ≡ c.args.list.now ++ l))
    (ap (λ l. of_constant (Some c.in-Some.constant) stage (ranked_from 0 l)) c.as_slice-members.ensures ∙ ap (λ o. of_constant o stage (ranked_from 0 ms)) (sym c.in-Some.is)) with_members
