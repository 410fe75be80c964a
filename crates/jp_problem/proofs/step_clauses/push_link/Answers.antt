use Rattle.std.proofs.Common.{◌≡◌, ◌∙◌, ◌++◌, ap, sym, subst, OnOk}
use Rattle.std.proofs.lemmas.List.{append-nil}
use Rattle.jp_problem.proofs.PushLaws.{linked_pair, no_left, no_right}
use Rattle.jp_problem.proofs.step_clauses.push_link.Goals as goal

pub returns-in-Some-Some : goal.returns-in-Some-Some
returns-in-Some-Some c = subst (λ l. OnOk c.push_ranked.result (c.push_ranked.new.list ≡ c.args.list.now ++ l))
    (sym (linked_pair c.args.stage.now c.args.members.now c.in-Some-Some.i c.in-Some-Some.j (sym c.first_there.ensures ∙ c.in-Some-Some.is-0) (sym c.first_there-2.ensures ∙ c.in-Some-Some.is-1))) c.push_ranked.ensures

pub returns-in_default : goal.returns-in_default
returns-in_default c = sym (append-nil c.args.list.now) ∙ ap (λ l. c.args.list.now ++ l) (sym (no_right c.args.stage.now c.args.members.now (sym c.first_there-2.ensures ∙ c.in_default.is-1)))

pub returns-in_default-2 : goal.returns-in_default-2
returns-in_default-2 c = sym (append-nil c.args.list.now) ∙ ap (λ l. c.args.list.now ++ l) (sym (no_left c.args.stage.now c.args.members.now (sym c.first_there.ensures ∙ c.in_default.is-0)))
