use Rattle.std.proofs.Common.{◌≡◌, ◌∙◌, sym, ap, ap₂, ◌++◌}
use Rattle.jp_problem.specs.Blocks.{placeholders_in}
use Rattle.jp_special.specs.Placeholders.{in_arm, in_option, in_order, in_output, in_term, in_tree}
use Rattle.jp_special.proofs.PlaceholderLaws.{loop_more, case_gives, at_order, at_output}
use Rattle.jp_special.proofs.placeholders.+placeholders.Goals as goal
use Rattle.jp_special.proofs.placeholders.+placeholders.Goals.{placeholders_in-in-Some+in_ok-operand-in-Some, placeholders_in-in-None, placeholders_in-in-Some-otherwise+in_ok-otherwise-in-Some-otherwise, placeholders_in-in-None-otherwise}

pub in_list-exprs-preserved : goal.in_list-exprs-preserved
in_list-exprs-preserved t c =
    loop_more placeholders_in c.args.exprs.now c.exprs.expr-index c.expr-item.result c.exprs.all c.in_ok-more.more c.in_ok-all.all c.exprs-test.true c.expr-item.is c.exprs.invariant c.in_ok-more.ensures c.in_ok-all.ensures

pub in_terms-terms-preserved : goal.in_terms-terms-preserved
in_terms-terms-preserved t c =
    loop_more in_term c.args.terms.now c.terms.term-index c.terms-item.result c.terms.all c.in_ok-more.more c.in_ok-all.all c.terms-test.true c.terms-item.is c.terms.invariant c.in_ok-more.ensures c.in_ok-all.ensures

pub in_arms-arms-preserved : goal.in_arms-arms-preserved
in_arms-arms-preserved t c =
    loop_more in_arm c.args.arms.now c.arms.when-index c.arms-item.result c.arms.all c.in_ok-more.more c.in_ok-all.all c.arms-test.true c.arms-item.is c.arms.invariant (c.in_ok-more.ensures ∙ ap₂ ◌++◌ c.in_ok-when.ensures c.in_ok-then.ensures) c.in_ok-all.ensures

pub in_trees-trees-preserved : goal.in_trees-trees-preserved
in_trees-trees-preserved t c =
    loop_more in_tree c.args.trees.now c.trees.tree-index c.tree-item.result c.trees.all c.in_ok-more.more c.in_ok-all.all c.trees-test.true c.tree-item.is c.trees.invariant c.in_ok-more.ensures c.in_ok-all.ensures

pub in_outputs-outputs-preserved : goal.in_outputs-outputs-preserved
in_outputs-outputs-preserved t c =
    loop_more in_output c.args.outputs.now c.outputs.output-index c.output-item.result c.outputs.all c.in_ok-more.more c.in_ok-all.all c.outputs-test.true c.output-item.is c.outputs.invariant (c.in_ok-more.ensures ∙ sym (at_output c.output-item.result)) c.in_ok-all.ensures

pub in_orders-orders-preserved : goal.in_orders-orders-preserved
in_orders-orders-preserved t c =
    loop_more in_order c.args.orders.now c.orders.order-index c.order-item.result c.orders.all c.in_ok-more.more c.in_ok-all.all c.orders-test.true c.order-item.is c.orders.invariant (c.in_ok-more.ensures ∙ sym (at_order c.order-item.result)) c.in_ok-all.ensures

pub placeholders_in-returns-in_ok-found-in-Case-2 : goal.placeholders_in-returns-in_ok-found-in-Case-2
placeholders_in-returns-in_ok-found-in-Case-2 t c =
    let operand : c.match-operand.operand ≡ in_option c.in-Case.operand = elim c.match-operand.branch [ placeholders_in-in-Some+in_ok-operand-in-Some w ↦ w.operand-is ∙ w.in_ok-operand-in-Some.ensures ∙ ap placeholders_in w.get-in-Some.ensures ∙ sym (ap in_option w.in-Some.is) | placeholders_in-in-None w ↦ w.operand-is ∙ w.new-operand.ensures ∙ sym (ap in_option w.in-None.is) ] in
    let otherwise : c.match-otherwise.otherwise ≡ in_option c.in-Case.otherwise = elim c.match-otherwise.branch [ placeholders_in-in-Some-otherwise+in_ok-otherwise-in-Some-otherwise w ↦ w.otherwise-is ∙ w.in_ok-otherwise-in-Some-otherwise.ensures ∙ ap placeholders_in w.get-in-Some-otherwise.ensures ∙ sym (ap in_option w.in-Some-otherwise.is) | placeholders_in-in-None-otherwise w ↦ w.otherwise-is ∙ w.new-otherwise.ensures ∙ sym (ap in_option w.in-None-otherwise.is) ] in
    case_gives c.args.expr.now c.in-Case.operand c.in-Case.arms c.in-Case.otherwise c.as_slice-in-Case.result.now c.match-operand.operand c.in_ok-arms-in-Case.arms c.match-otherwise.otherwise c.in_ok-found-in-Case.found c.in_ok-found-in-Case-2.found c.in-Case.is operand otherwise c.as_slice-in-Case.ensures c.in_ok-arms-in-Case.ensures c.in_ok-found-in-Case.ensures c.in_ok-found-in-Case-2.ensures
