use Rattle.std.proofs.Common.{◌≡◌, ◌∙◌, ap, sym, refl, Option, Some, None, length, ◌<◌, arith}
use Rattle.std.specs.Prelude.{bit_or}
use Rattle.jp_query.specs.Refs.{union, refs_of, refs_of_option, refs_of_arm, refs_of_term, refs_of_output, refs_of_order}
use Rattle.jp_query.proofs.RefsLaws.{two, refs-Case, refs-Order, refs-Output, union_more}
use Rattle.jp_query.proofs.references.+references.Goals as goal
use Rattle.jp_query.proofs.references.+references.Goals.{refs-in-Some, refs-in-None, refs-in-Some-otherwise, refs-in-None-otherwise}

pub refs-returns-after-otherwise : goal.refs-returns-after-otherwise
refs-returns-after-otherwise t c =
    let operand : c.match-operand.operand ≡ refs_of_option c.in-Case.operand = elim c.match-operand.branch [ refs-in-Some w ↦ (let e = ap refs_of_option w.in-Some.is in cc) | refs-in-None w ↦ (let e = ap refs_of_option w.in-None.is in cc) ] in
    let otherwise : c.match-otherwise.otherwise ≡ refs_of_option c.in-Case.otherwise = elim c.match-otherwise.branch [ refs-in-Some-otherwise w ↦ (let e = ap refs_of_option w.in-Some-otherwise.is in cc) | refs-in-None-otherwise w ↦ (let e = ap refs_of_option w.in-None-otherwise.is in cc) ] in
    let e = refs-Case c.in-Case.operand c.in-Case.arms c.in-Case.otherwise in
    cc

pub refs_in_arms-loop-when-preserved : goal.refs_in_arms-loop-when-preserved
refs_in_arms-loop-when-preserved t c =
    let e = union_more refs_of_arm c.args.arms.now c.loop-when.when-index c.loop-when-item.result c.loop-when-test.true in
    let r = ap refs_of_arm c.loop-when-item.is in
    cc

pub refs_in_orders-loop-order-preserved : goal.refs_in_orders-loop-order-preserved
refs_in_orders-loop-order-preserved t c =
    let e = union_more refs_of_order c.args.orders.now c.loop-order.order-index c.order-item.result c.loop-order-test.true in
    let r = refs-Order c.order-item.result in
    cc

pub refs_in_outputs-loop-output-preserved : goal.refs_in_outputs-loop-output-preserved
refs_in_outputs-loop-output-preserved t c =
    let e = union_more refs_of_output c.args.outputs.now c.loop-output.output-index c.output-item.result c.loop-output-test.true in
    let r = refs-Output c.output-item.result in
    cc

pub refs_in_terms-loop-term-preserved : goal.refs_in_terms-loop-term-preserved
refs_in_terms-loop-term-preserved t c =
    let e = union_more refs_of_term c.args.terms.now c.loop-term.term-index c.loop-term-item.result c.loop-term-test.true in
    let r = ap refs_of_term c.loop-term-item.is in
    cc
