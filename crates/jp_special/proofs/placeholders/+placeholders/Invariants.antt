use Rattle.std.proofs.Common.{◌≡◌, take}
use Rattle.jp_problem.specs.Blocks.{placeholders_in}
use Rattle.jp_special.specs.Placeholders.{in_arm, in_each, in_order, in_output, in_term, in_tree}
use Rattle.jp_special.proofs.placeholders.+placeholders.Given as goal

abbrev pub invariant-in_list-exprs : goal.invariant-in_list-exprs
invariant-in_list-exprs l = l.all ≡ in_each placeholders_in (take l.expr-index l.exprs)

abbrev pub invariant-in_terms-terms : goal.invariant-in_terms-terms
invariant-in_terms-terms l = l.all ≡ in_each in_term (take l.term-index l.terms)

abbrev pub invariant-in_arms-arms : goal.invariant-in_arms-arms
invariant-in_arms-arms l = l.all ≡ in_each in_arm (take l.when-index l.arms)

abbrev pub invariant-in_trees-trees : goal.invariant-in_trees-trees
invariant-in_trees-trees l = l.all ≡ in_each in_tree (take l.tree-index l.trees)

abbrev pub invariant-in_outputs-outputs : goal.invariant-in_outputs-outputs
invariant-in_outputs-outputs l = l.all ≡ in_each in_output (take l.output-index l.outputs)

abbrev pub invariant-in_orders-orders : goal.invariant-in_orders-orders
invariant-in_orders-orders l = l.all ≡ in_each in_order (take l.order-index l.orders)
