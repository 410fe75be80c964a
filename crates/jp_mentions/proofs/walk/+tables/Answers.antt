use Rattle.std.proofs.Common.{◌≡◌, ◌∙◌, ◌++◌, ap, sym}
use Rattle.std.specs.List.{flat_map}
use Rattle.std.proofs.lemmas.List.{append-nil}
use Rattle.jp_mentions.specs.Walk.{tables_of_arm, tables_of_option, tables_of_order, tables_of_output}
use Rattle.jp_mentions.proofs.TableLaws.{case_pushed, pushed_more, tables-Order, tables-Output}
use Rattle.jp_mentions.proofs.walk.+tables.Goals as goal
use Rattle.jp_mentions.proofs.walk.+tables.Goals.{push_expr-in-Some+in_ok-push_expr-in-Some, push_expr-in-None}

pub push_orders-loop-order-preserved : goal.push_orders-loop-order-preserved
push_orders-loop-order-preserved t c =
    pushed_more tables_of_order c.args.orders.now c.loop-order.order-index c.order-item.result c.args.tables.now.items c.loop-order.tables.items c.push_expr.new.tables.items c.loop-order-test.true c.order-item.is c.loop-order.invariant
    (c.in_ok-push_expr.ensures ∙ ap (λ ys. c.loop-order.tables.items ++ ys) (sym (tables-Order c.order-item.result)))

pub push_outputs-loop-output-preserved : goal.push_outputs-loop-output-preserved
push_outputs-loop-output-preserved t c =
    pushed_more tables_of_output c.args.outputs.now c.loop-output.output-index c.output-item.result c.args.tables.now.items c.loop-output.tables.items c.push_expr.new.tables.items c.loop-output-test.true c.output-item.is c.loop-output.invariant
    (c.in_ok-push_expr.ensures ∙ ap (λ ys. c.loop-output.tables.items ++ ys) (sym (tables-Output c.output-item.result)))

pub push_expr-returns-in_ok-push_expr-in-Some-otherwise : goal.push_expr-returns-in_ok-push_expr-in-Some-otherwise
push_expr-returns-in_ok-push_expr-in-Some-otherwise t c =
    let old = c.args.tables.now.items in
    let first : c.match-operand.tables.items ≡ old ++ tables_of_option c.in-Case.operand = elim c.match-operand.branch [
      | push_expr-in-Some+in_ok-push_expr-in-Some w ↦ (let e = ap tables_of_option w.in-Some.is in let f = w.in_ok-push_expr-in-Some.ensures in cc)
      | push_expr-in-None w ↦ (let e = ap tables_of_option w.in-None.is in let n = append-nil old in cc)
    ] in
    let second : c.push_arms.new.tables.items ≡ c.match-operand.tables.items ++ flat_map tables_of_arm c.in-Case.arms = let f = c.in_ok-push_arms-in-Case.ensures in cc in
    let last : c.push_expr-in-Some-otherwise.new.tables.items ≡ c.push_arms.new.tables.items ++ tables_of_option c.in-Case.otherwise = let e = ap tables_of_option c.in-Some-otherwise.is in let f = c.in_ok-push_expr-in-Some-otherwise.ensures in cc in
    let all = case_pushed c.in-Case.operand c.in-Case.arms c.in-Case.otherwise old _ _ _ first second last in
    cc

pub push_expr-returns-in-None-otherwise : goal.push_expr-returns-in-None-otherwise
push_expr-returns-in-None-otherwise t c =
    let old = c.args.tables.now.items in
    let first : c.match-operand.tables.items ≡ old ++ tables_of_option c.in-Case.operand = elim c.match-operand.branch [
      | push_expr-in-Some+in_ok-push_expr-in-Some w ↦ (let e = ap tables_of_option w.in-Some.is in let f = w.in_ok-push_expr-in-Some.ensures in cc)
      | push_expr-in-None w ↦ (let e = ap tables_of_option w.in-None.is in let n = append-nil old in cc)
    ] in
    let second : c.push_arms.new.tables.items ≡ c.match-operand.tables.items ++ flat_map tables_of_arm c.in-Case.arms = let f = c.in_ok-push_arms-in-Case.ensures in cc in
    let last : c.push_arms.new.tables.items ≡ c.push_arms.new.tables.items ++ tables_of_option c.in-Case.otherwise = let e = ap tables_of_option c.in-None-otherwise.is in let n = append-nil c.push_arms.new.tables.items in cc in
    let all = case_pushed c.in-Case.operand c.in-Case.arms c.in-Case.otherwise old _ _ _ first second last in
    cc
