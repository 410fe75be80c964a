use Rattle.std.proofs.Common.{◌≡◌, take}
use Rattle.jp_query.proofs.+copy.Given as goal

abbrev pub invariant-copies::copy_arms-loop-when : goal.invariant-copies::copy_arms-loop-when
invariant-copies::copy_arms-loop-when l = l.out ≡ take l.when-index l.arms

abbrev pub invariant-copies::copy_list-loop-expr : goal.invariant-copies::copy_list-loop-expr
invariant-copies::copy_list-loop-expr l = l.out ≡ take l.expr-index l.exprs

abbrev pub invariant-copies::copy_orders-loop-order : goal.invariant-copies::copy_orders-loop-order
invariant-copies::copy_orders-loop-order l = l.out ≡ take l.order-index l.orders

abbrev pub invariant-copies::copy_outputs-loop-output : goal.invariant-copies::copy_outputs-loop-output
invariant-copies::copy_outputs-loop-output l = l.out ≡ take l.output-index l.outputs

abbrev pub invariant-copies::copy_terms-loop-subtracted : goal.invariant-copies::copy_terms-loop-subtracted
invariant-copies::copy_terms-loop-subtracted l = l.out ≡ take l.subtracted-index l.terms

abbrev pub invariant-copies::copy_trees-loop-tree : goal.invariant-copies::copy_trees-loop-tree
invariant-copies::copy_trees-loop-tree l = l.out ≡ take l.tree-index l.trees
