use Rattle.std.proofs.Common.{◌≡◌, ◌∙◌, ap, ap₂, sym, List, ◌&&◌, map}
use Rattle.jp_query.specs.declared.Expr.{Expr}
use Rattle.jp_query.specs.Parts.{arm_parts}
use Rattle.jp_outputs.specs.Within.{all_hold, names_within}
use Rattle.jp_outputs.proofs.WithinLaws.{in_arms_more, in_list_more, in_terms_more, names-Case, of_option}
use Rattle.jp_outputs.proofs.within.+within.Goals as goal
use Rattle.jp_outputs.proofs.within.+within.Goals.{names_within-in-Some, names_within-in-None, names_within-in-Some-otherwise, names_within-in-None-otherwise}

pub list_within-exprs-preserved : goal.list_within-exprs-preserved
list_within-exprs-preserved t c =
    c.both-all.ensures
    ∙ ap₂ (λ a b. a && b) c.exprs.invariant c.names_within.ensures
    ∙ sym (in_list_more c.args.set c.args.exprs.now c.exprs.expr-index c.expr-item.result c.exprs-test.true c.expr-item.is)

pub terms_within-terms-preserved : goal.terms_within-terms-preserved
terms_within-terms-preserved t c =
    c.both-all.ensures
    ∙ ap₂ (λ a b. a && b) c.terms.invariant c.names_within.ensures
    ∙ sym (in_terms_more c.args.set c.args.terms.now c.terms.term-index c.terms-item.result c.terms-test.true c.terms-item.is)

pub arms_within-arms-preserved : goal.arms_within-arms-preserved
arms_within-arms-preserved t c =
    c.both-all.ensures
    ∙ ap₂ (λ a b. a && b) c.arms.invariant (c.both.ensures ∙ ap₂ (λ a b. a && b) c.names_within.ensures c.names_within-in-arms.ensures)
    ∙ sym (in_arms_more c.args.set c.args.arms.now c.arms.when-index c.arms-item.result c.arms-test.true c.arms-item.is)

pub names_within-returns-after-otherwise : goal.names_within-returns-after-otherwise
names_within-returns-after-otherwise t c =
    let set = c.args.set in
    let operand : c.match-operand.operand ≡ of_option set c.in-Case.operand = elim c.match-operand.branch [
      | names_within-in-Some w ↦ w.operand-is ∙ w.names_within-operand.ensures ∙ ap (λ (e : Expr). names_within set e) w.get-in-Some.ensures ∙ ap (of_option set) (sym w.in-Some.is)
      | names_within-in-None w ↦ w.operand-is ∙ ap (of_option set) (sym w.in-None.is)
    ] in
    let otherwise : c.match-otherwise.otherwise ≡ of_option set c.in-Case.otherwise = elim c.match-otherwise.branch [
      | names_within-in-Some-otherwise w ↦ w.otherwise-is ∙ w.names_within-otherwise.ensures ∙ ap (λ (e : Expr). names_within set e) w.get-in-Some-otherwise.ensures ∙ ap (of_option set) (sym w.in-Some-otherwise.is)
      | names_within-in-None-otherwise w ↦ w.otherwise-is ∙ ap (of_option set) (sym w.in-None-otherwise.is)
    ] in
    let arms : c.arms_within.result ≡ all_hold (map (names_within set) (arm_parts c.in-Case.arms)) = c.arms_within.ensures ∙ ap (λ (as' : List (Expr × Expr)). all_hold (map (names_within set) (arm_parts as'))) c.as_slice-in-Case.ensures in
    c.both-in-Case-2.ensures
    ∙ ap₂ (λ a b. a && b) operand (c.both-in-Case.ensures ∙ ap₂ (λ a b. a && b) arms otherwise)
    ∙ sym (ap (names_within set) c.in-Case.is ∙ names-Case set c.in-Case.operand c.in-Case.arms c.in-Case.otherwise)
