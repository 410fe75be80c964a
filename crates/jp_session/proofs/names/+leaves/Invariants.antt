use Rattle.std.proofs.Common.{◌≡◌, ◌++◌, take}
use Rattle.std.specs.List.{flat_map}
use Rattle.jp_session.specs.Names.{arm_names, expr_names, order_names, output_names, term_names, tree_names}
use Rattle.jp_session.proofs.names.+leaves.Given as goal

abbrev pub invariant-push_trees-trees : goal.invariant-push_trees-trees
invariant-push_trees-trees l = l.leaves.items ≡ l.fn.leaves.items ++ flat_map (tree_names l.catalog) (take l.tree-index l.trees)

abbrev pub invariant-push_list-exprs : goal.invariant-push_list-exprs
invariant-push_list-exprs l = l.leaves.items ≡ l.fn.leaves.items ++ flat_map (expr_names l.catalog) (take l.expr-index l.exprs)

abbrev pub invariant-push_terms-terms : goal.invariant-push_terms-terms
invariant-push_terms-terms l = l.leaves.items ≡ l.fn.leaves.items ++ flat_map (term_names l.catalog) (take l.term-index l.terms)

abbrev pub invariant-push_arms-arms : goal.invariant-push_arms-arms
invariant-push_arms-arms l = l.leaves.items ≡ l.fn.leaves.items ++ flat_map (arm_names l.catalog) (take l.arm-index l.arms)

abbrev pub invariant-push_outputs-outputs : goal.invariant-push_outputs-outputs
invariant-push_outputs-outputs l = l.leaves.items ≡ l.fn.leaves.items ++ flat_map (output_names l.catalog) (take l.output-index l.outputs)

abbrev pub invariant-push_orders-orders : goal.invariant-push_orders-orders
invariant-push_orders-orders l = l.leaves.items ≡ l.fn.leaves.items ++ flat_map (order_names l.catalog) (take l.order-index l.orders)
