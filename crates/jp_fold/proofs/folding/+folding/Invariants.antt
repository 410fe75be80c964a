use Rattle.std.proofs.Common.{◌≡◌, map, take}
use Rattle.jp_fold.specs.InBits.{arm_made, expr_made, order_made, output_made, term_made, tree_made}
use Rattle.jp_fold.proofs.folding.+folding.Given as goal

abbrev pub invariant-fold_arms-loop-when : goal.invariant-fold_arms-loop-when
invariant-fold_arms-loop-when l = l.out ≡ map arm_made (take l.when-index l.arms)

abbrev pub invariant-fold_list-loop-expr : goal.invariant-fold_list-loop-expr
invariant-fold_list-loop-expr l = l.out ≡ map expr_made (take l.expr-index l.exprs)

abbrev pub invariant-fold_orders-loop-order : goal.invariant-fold_orders-loop-order
invariant-fold_orders-loop-order l = l.out ≡ map order_made (take l.order-index l.orders)

abbrev pub invariant-fold_outputs-loop-output : goal.invariant-fold_outputs-loop-output
invariant-fold_outputs-loop-output l = l.out ≡ map output_made (take l.output-index l.outputs)

abbrev pub invariant-fold_terms-loop-subtracted : goal.invariant-fold_terms-loop-subtracted
invariant-fold_terms-loop-subtracted l = l.out ≡ map term_made (take l.subtracted-index l.terms)

abbrev pub invariant-fold_trees-loop-tree : goal.invariant-fold_trees-loop-tree
invariant-fold_trees-loop-tree l = l.out ≡ map tree_made (take l.tree-index l.trees)
