use Rattle.std.proofs.Common.{◌≡◌, take, map}
use Rattle.jp_query.specs.Refs.{union, refs_of, refs_of_tree, refs_of_output, refs_of_order, refs_of_term, refs_of_arm}
use Rattle.jp_query.proofs.references.+references.Given as goal

abbrev pub invariant-refs_in_arms-loop-when : goal.invariant-refs_in_arms-loop-when
invariant-refs_in_arms-loop-when l = l.all ≡ union (map refs_of_arm (take l.when-index l.arms))

abbrev pub invariant-refs_in_list-loop-expr : goal.invariant-refs_in_list-loop-expr
invariant-refs_in_list-loop-expr l = l.all ≡ union (map refs_of (take l.expr-index l.exprs))

abbrev pub invariant-refs_in_orders-loop-order : goal.invariant-refs_in_orders-loop-order
invariant-refs_in_orders-loop-order l = l.all ≡ union (map refs_of_order (take l.order-index l.orders))

abbrev pub invariant-refs_in_outputs-loop-output : goal.invariant-refs_in_outputs-loop-output
invariant-refs_in_outputs-loop-output l = l.all ≡ union (map refs_of_output (take l.output-index l.outputs))

abbrev pub invariant-refs_in_terms-loop-term : goal.invariant-refs_in_terms-loop-term
invariant-refs_in_terms-loop-term l = l.all ≡ union (map refs_of_term (take l.term-index l.terms))

abbrev pub invariant-refs_in_trees-loop-tree : goal.invariant-refs_in_trees-loop-tree
invariant-refs_in_trees-loop-tree l = l.all ≡ union (map refs_of_tree (take l.tree-index l.trees))
