use Rattle.std.proofs.Common.{◌≡◌, ◌++◌, take}
use Rattle.std.specs.List.{flat_map}
use Rattle.jp_mentions.specs.Walk.{tables_of, tables_of_arm, tables_of_order, tables_of_output, tables_of_term, tables_of_tree}
use Rattle.jp_mentions.proofs.walk.+tables.Given as goal

abbrev pub invariant-push_list-loop-expr : goal.invariant-push_list-loop-expr
invariant-push_list-loop-expr l = l.tables.items ≡ l.fn.tables.items ++ flat_map tables_of (take l.expr-index l.exprs)

abbrev pub invariant-push_terms-loop-term : goal.invariant-push_terms-loop-term
invariant-push_terms-loop-term l = l.tables.items ≡ l.fn.tables.items ++ flat_map tables_of_term (take l.term-index l.terms)

abbrev pub invariant-push_arms-loop-arm : goal.invariant-push_arms-loop-arm
invariant-push_arms-loop-arm l = l.tables.items ≡ l.fn.tables.items ++ flat_map tables_of_arm (take l.arm-index l.arms)

abbrev pub invariant-push_trees-loop-tree : goal.invariant-push_trees-loop-tree
invariant-push_trees-loop-tree l = l.tables.items ≡ l.fn.tables.items ++ flat_map tables_of_tree (take l.tree-index l.trees)

abbrev pub invariant-push_outputs-loop-output : goal.invariant-push_outputs-loop-output
invariant-push_outputs-loop-output l = l.tables.items ≡ l.fn.tables.items ++ flat_map tables_of_output (take l.output-index l.outputs)

abbrev pub invariant-push_orders-loop-order : goal.invariant-push_orders-loop-order
invariant-push_orders-loop-order l = l.tables.items ≡ l.fn.tables.items ++ flat_map tables_of_order (take l.order-index l.orders)
