use Rattle.std.proofs.Common.{◌≡◌, ◌∙◌, ap, sym, true, Some, rules}
use Rattle.std.specs.Option.{option_map}
use Rattle.jp_base.specs.Cells.{value_of_cell}
use Rattle.jp_query.specs.declared.CmpOp.TheVariants as cmp
use Rattle.jp_query.specs.declared.Expr.TheVariants as expr
use Rattle.jp_query.specs.Operators.{truth_of_value, compared, value_or_null}
use Rattle.jp_eval.specs.Computed.{computed, value_in, truth_in, equality_in}
use Rattle.jp_eval.specs.Concatenation.{has_concatenation}
use Rattle.jp_eval.specs.Evaluated.{value_of_evaluated, chosen_or}
use Rattle.jp_eval.proofs.ComputedLaws.{computed-chosen, all_settled, any_settled}
use Rattle.jp_eval.proofs.ConcatenationLaws.{in-Case-arms}
use Rattle.jp_eval.proofs.evaluation.+evaluation.Goals as goal
use Rattle.jp_eval.proofs.evaluation.+evaluation.Goals.{evaluate-in-Some+in_ok-evaluate-in-Some, evaluate-in-None}

pub evaluate-returns-in_err-chosen-in-Case-clause-memory : goal.evaluate-returns-in_err-chosen-in-Case-clause-memory
evaluate-returns-in_err-chosen-in-Case-clause-memory g t c =
    let part = in-Case-arms c.in-Case.operand c.as_slice-in-Case.result.now c.in-Case.otherwise c.in_err-chosen-in-Case.ensures.memory in
    let whole : has_concatenation c.args.expr.now ≡ true = cc in
    search (rules, whole)

pub evaluate-returns-in-Some-chosen-clause-value : goal.evaluate-returns-in-Some-chosen-clause-value
evaluate-returns-in-Some-chosen-clause-value g t c =
    let rows = g.E.Env.sublink_rows c.args.env.now in
    let env = g.E.Env.environment c.args.env.now in
    let operand : option_map value_of_evaluated c.match-operand-2.operand ≡ option_map (value_in rows env) c.in-Case.operand = elim c.match-operand-2.branch [
      | evaluate-in-Some+in_ok-evaluate-in-Some w ↦ ap (option_map value_of_evaluated) w.operand-is ∙ ap Some (w.in_ok-evaluate-in-Some.ensures.value ∙ ap (value_in rows env) w.get-in-Some.ensures) ∙ sym (ap (option_map (value_in rows env)) w.in-Some.is)
      | evaluate-in-None w ↦ ap (option_map value_of_evaluated) w.operand-is ∙ sym (ap (option_map (value_in rows env)) w.in-None.is)
    ] in
    let whole = computed-chosen rows env (option_map value_of_evaluated c.match-operand-2.operand) c.in-Case.operand c.as_slice-in-Case.result.now c.in-Case.otherwise c.in_ok-chosen-in-Case.chosen operand c.in_ok-chosen-in-Case.ensures.value in
    let found = ap (λ v. chosen_or v (value_or_null (option_map (value_in rows env) c.in-Case.otherwise))) c.in-Some-chosen.is in
    cc

pub evaluate-returns-in-Some-otherwise-clause-value : goal.evaluate-returns-in-Some-otherwise-clause-value
evaluate-returns-in-Some-otherwise-clause-value g t c =
    let rows = g.E.Env.sublink_rows c.args.env.now in
    let env = g.E.Env.environment c.args.env.now in
    let operand : option_map value_of_evaluated c.match-operand-2.operand ≡ option_map (value_in rows env) c.in-Case.operand = elim c.match-operand-2.branch [
      | evaluate-in-Some+in_ok-evaluate-in-Some w ↦ ap (option_map value_of_evaluated) w.operand-is ∙ ap Some (w.in_ok-evaluate-in-Some.ensures.value ∙ ap (value_in rows env) w.get-in-Some.ensures) ∙ sym (ap (option_map (value_in rows env)) w.in-Some.is)
      | evaluate-in-None w ↦ ap (option_map value_of_evaluated) w.operand-is ∙ sym (ap (option_map (value_in rows env)) w.in-None.is)
    ] in
    let whole = computed-chosen rows env (option_map value_of_evaluated c.match-operand-2.operand) c.in-Case.operand c.as_slice-in-Case.result.now c.in-Case.otherwise c.in_ok-chosen-in-Case.chosen operand c.in_ok-chosen-in-Case.ensures.value in
    let found = ap (λ v. chosen_or v (value_or_null (option_map (value_in rows env) c.in-Case.otherwise))) c.in-None-chosen.is in
    let otherwise = ap (λ o. value_or_null (option_map (value_in rows env) o)) c.in-Some-otherwise.is in
    let here = ap (λ e. computed rows e env) (c.in-Case.is ∙ sym (ap (λ a. expr.Case c.in-Case.operand a c.in-Case.otherwise) c.as_slice-in-Case.ensures)) in
    c.in_ok-otherwise-in-Some-otherwise.ensures.value ∙ ap (value_in rows env) c.get-in-Some-otherwise.ensures ∙ sym otherwise ∙ sym found ∙ sym whole ∙ sym here

pub evaluate-returns-in-Case-clause-value : goal.evaluate-returns-in-Case-clause-value
evaluate-returns-in-Case-clause-value g t c =
    let rows = g.E.Env.sublink_rows c.args.env.now in
    let env = g.E.Env.environment c.args.env.now in
    let operand : option_map value_of_evaluated c.match-operand-2.operand ≡ option_map (value_in rows env) c.in-Case.operand = elim c.match-operand-2.branch [
      | evaluate-in-Some+in_ok-evaluate-in-Some w ↦ ap (option_map value_of_evaluated) w.operand-is ∙ ap Some (w.in_ok-evaluate-in-Some.ensures.value ∙ ap (value_in rows env) w.get-in-Some.ensures) ∙ sym (ap (option_map (value_in rows env)) w.in-Some.is)
      | evaluate-in-None w ↦ ap (option_map value_of_evaluated) w.operand-is ∙ sym (ap (option_map (value_in rows env)) w.in-None.is)
    ] in
    let whole = computed-chosen rows env (option_map value_of_evaluated c.match-operand-2.operand) c.in-Case.operand c.as_slice-in-Case.result.now c.in-Case.otherwise c.in_ok-chosen-in-Case.chosen operand c.in_ok-chosen-in-Case.ensures.value in
    let found = ap (λ v. chosen_or v (value_or_null (option_map (value_in rows env) c.in-Case.otherwise))) c.in-None-chosen.is in
    let otherwise = ap (λ o. value_or_null (option_map (value_in rows env) o)) c.in-None-otherwise.is in
    cc

pub conjunction-returns-then-eq-clause-value : goal.conjunction-returns-then-eq-clause-value
conjunction-returns-then-eq-clause-value g t c =
    let truth = truth_in (g.E.Env.sublink_rows c.args.env.now) (g.E.Env.environment c.args.env.now) in
    all_settled truth c.args.members.now c.loop-member.member-index c.member-item.result c.loop-member.all c.truth.result c.and-all.result c.loop-member-test.true c.loop-member.invariant
    (c.truth.ensures ∙ ap truth_of_value c.in_ok-member.ensures.value ∙ ap truth c.member-item.is) c.and-all.ensures (search rules)

pub disjunction-returns-then-eq-clause-value : goal.disjunction-returns-then-eq-clause-value
disjunction-returns-then-eq-clause-value g t c =
    let truth = truth_in (g.E.Env.sublink_rows c.args.env.now) (g.E.Env.environment c.args.env.now) in
    any_settled truth c.args.members.now c.loop-member.member-index c.member-item.result c.loop-member.any c.truth.result c.or-any.result c.loop-member-test.true c.loop-member.invariant
    (c.truth.ensures ∙ ap truth_of_value c.in_ok-member.ensures.value ∙ ap truth c.member-item.is) c.or-any.ensures (search rules)

pub is_among-returns-then-eq-clause-value : goal.is_among-returns-then-eq-clause-value
is_among-returns-then-eq-clause-value g t c =
    let operand = value_of_cell c.args.operand in
    let equality = equality_in (g.E.Env.sublink_rows c.args.env.now) (g.E.Env.environment c.args.env.now) operand in
    any_settled equality c.args.list.now c.loop-member.member-index c.member-item.result c.loop-member.any c.comparison.result c.or-any.result c.loop-member-test.true c.loop-member.invariant
    (c.comparison.ensures ∙ ap (compared cmp.Eq operand) (c.cell.ensures ∙ c.in_ok-member.ensures.value) ∙ ap equality c.member-item.is) c.or-any.ensures (search rules)
