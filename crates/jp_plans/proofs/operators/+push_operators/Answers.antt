use Rattle.std.proofs.Common.{◌≡◌, ap, sym, Some}
use Rattle.std.specs.Prelude.{slice_get}
use Rattle.jp_tree.specs.declared.pool.PlanNode.TheVariants as node
use Rattle.jp_tree.proofs.PlanTreeLaws.{tree_join, tree_scan}
use Rattle.jp_plans.specs.Operators.{operators_of}
use Rattle.jp_plans.proofs.OperatorFacts.{pushed_as, three_pushed}
use Rattle.jp_plans.proofs.operators.+push_operators.Goals as goal

pub returns-in_ok-push-in-Scan : goal.returns-in_ok-push-in-Scan
returns-in_ok-push-in-Scan t c =
    let nodes = c.args.pool.now.nodes in
    let is : slice_get nodes c.args.id ≡ Some (node.Scan c.in-Scan.item) = let e = c.node.ensures.is in cc in
    pushed_as c.args.operators.now.items c.push.new.self.items _ _ c.in_ok-push-in-Scan.ensures.items (ap operators_of (sym (tree_scan nodes c.args.id c.in-Scan.item is)))

pub returns-in_ok-push-in-Join : goal.returns-in_ok-push-in-Join
returns-in_ok-push-in-Join t c =
    let nodes = c.args.pool.now.nodes in
    let is : slice_get nodes c.args.id ≡ Some (node.Join c.in-Join.method c.in-Join.step c.in-Join.left c.in-Join.right) = let e = c.node.ensures.is in cc in
    pushed_as c.args.operators.now.items c.push-in-Join.new.self.items _ _
    (three_pushed c.args.operators.now.items c.push_operators.new.operators.items c.push_operators-in-Join.new.operators.items c.push-in-Join.new.self.items _ _ _
    c.in_ok-push_operators-in-Join.ensures c.in_ok-push_operators-in-Join-2.ensures c.in_ok-push-in-Join.ensures.items)
    (ap operators_of (sym (tree_join nodes c.args.id c.in-Join.method c.in-Join.step c.in-Join.left c.in-Join.right is c.in-Join.ensures.children.0 c.in-Join.ensures.children.1)))
