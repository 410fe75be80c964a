use Rattle.std.proofs.Common.{◌≡◌, ◌∙◌, ◌++◌, ◌+◌, suc, map, ap, sym, subst, OnOk, arith}
use Rattle.std.proofs.lemmas.List.{append-nil}
use Rattle.jp_problem.specs.ClassWords.{ranked_at, ups_from}
use Rattle.jp_problem.specs.StepClauses.{equality}
use Rattle.jp_problem.proofs.PushLaws.{linked_before, linked_first, linked_none}
use Rattle.jp_problem.proofs.step_clauses.push_linked.Goals as goal

pub returns-in-Some : goal.returns-in-Some
returns-in-Some c = subst (λ l. OnOk c.push_ups.result (c.push_ups.new.list ≡ c.args.list.now ++ l))
    (sym (linked_before c.args.stage.now c.args.members.now c.in-Some.first (sym c.first_before.ensures ∙ c.in-Some.is))) c.push_ups.ensures

pub returns-in-Some-first_up : goal.returns-in-Some-first_up
returns-in-Some-first_up c =
    let k = c.in-Some-first_up.first in
    let next : k + 1 ≡ suc k = omega arith in
    subst (λ l. OnOk c.push_ups-in-Some-first_up.result (c.push_ups-in-Some-first_up.new.list ≡ c.args.list.now ++ l))
    (ap (λ n. map (equality (ranked_at c.args.members.now k)) (ups_from c.args.stage.now c.args.members.now n)) next
    ∙ sym (linked_first c.args.stage.now c.args.members.now k (sym c.first_before.ensures ∙ c.in-None.is) (sym c.first_up.ensures ∙ c.in-Some-first_up.is))) c.push_ups-in-Some-first_up.ensures

pub returns-in-None-first_up : goal.returns-in-None-first_up
returns-in-None-first_up c = sym (append-nil c.args.list.now) ∙ ap (λ l. c.args.list.now ++ l) (sym (linked_none c.args.stage.now c.args.members.now (sym c.first_before.ensures ∙ c.in-None.is) (sym c.first_up.ensures ∙ c.in-None-first_up.is)))
