use Rattle.std.proofs.Common.{◌≡◌, ◌∙◌, ◌≤◌, ◌+◌, ◌^◌, ap, ap₂, sym, subst, Some, arith}
use Rattle.std.specs.Prelude.{bit_or, slice_get}
use Rattle.jp_problem.specs.Trees.{set_of}
use Rattle.jp_cost.specs.Costs.{cost}
use Rattle.jp_cost.specs.Estimates.{estimate}
use Rattle.jp_cost.specs.TreeCosts.{tree_cost}
use Rattle.jp_tree.specs.declared.pool.PlanNode.TheVariants as node
use Rattle.jp_tree.proofs.PoolLaws.{named_below}
use Rattle.jp_tree.proofs.PlanTreeLaws.{legal_item, legal_sides, named_join, named_scan, tree_join, tree_scan}
use Rattle.jp_explain.proofs.PlanLaws.{step_fits}
use Rattle.jp_explain.proofs.weights.+weight_of.Goals as goal

pub node-requires : goal.node-requires
node-requires t c = record { there = named_below c.args.pool.now.nodes c.args.id c.requires.legal.tree c.requires.legal.named }

pub one-requires : goal.one-requires
one-requires t c =
    let is : slice_get c.args.pool.now.nodes c.args.id ≡ Some (node.Scan c.in-Scan.item) = let e = c.node.ensures.is in cc in
    let there = legal_item c.args.problem.now c.args.pool.now.nodes c.args.id c.in-Scan.item c.requires.legal is in
    omega (arith, there, c.requires.searchable.few)

pub weight_of-left-requires : goal.weight_of-left-requires
weight_of-left-requires t c =
    let is : slice_get c.args.pool.now.nodes c.args.id ≡ Some (node.Join c.in-Join.method c.in-Join.step c.in-Join.left c.in-Join.right) = let e = c.node.ensures.is in cc in
    let sides = legal_sides c.args.problem.now c.args.pool.now.nodes c.args.id c.in-Join.method c.in-Join.step c.in-Join.left c.in-Join.right c.requires.legal is in
    (omega (arith, c.in-Join.ensures.children.0), (c.requires.searchable, sides.0))

pub weight_of-right-requires : goal.weight_of-right-requires
weight_of-right-requires t c =
    let is : slice_get c.args.pool.now.nodes c.args.id ≡ Some (node.Join c.in-Join.method c.in-Join.step c.in-Join.left c.in-Join.right) = let e = c.node.ensures.is in cc in
    let sides = legal_sides c.args.problem.now c.args.pool.now.nodes c.args.id c.in-Join.method c.in-Join.step c.in-Join.left c.in-Join.right c.requires.legal is in
    (omega (arith, c.in-Join.ensures.children.1), (c.requires.searchable, sides.1))

pub joined-requires-clause-fits : goal.joined-requires-clause-fits
joined-requires-clause-fits t c =
    let problem = c.args.problem.now in
    let nodes = c.args.pool.now.nodes in
    let left = c.in-Join.left in
    let right = c.in-Join.right in
    let is : slice_get nodes c.args.id ≡ Some (node.Join c.in-Join.method c.in-Join.step left right) = let e = c.node.ensures.is in cc in
    let fits = step_fits problem c.requires.searchable nodes c.args.id c.in-Join.method c.in-Join.step left right c.requires.legal is c.in-Join.ensures.children.0 c.in-Join.ensures.children.1 c.weight_of-left.ensures.named c.weight_of-right.ensures.named in
    let costs = ap₂ (λ a b. a + b) c.weight_of-left.ensures.cost c.weight_of-right.ensures.cost in
    let steps = ap₂ (λ a b. cost c.in-Join.method (estimate problem a) (estimate problem b)) c.weight_of-left.ensures.set c.weight_of-right.ensures.set in
    subst (λ n. n ≤ 2 ^ 126) (sym (ap₂ (λ a b. a + b) costs steps)) fits

pub returns-in-Scan-clause-set : goal.returns-in-Scan-clause-set
returns-in-Scan-clause-set t c =
    let is : slice_get c.args.pool.now.nodes c.args.id ≡ Some (node.Scan c.in-Scan.item) = let e = c.node.ensures.is in cc in
    c.one.ensures ∙ sym (ap set_of (tree_scan c.args.pool.now.nodes c.args.id c.in-Scan.item is))

pub returns-in-Scan-clause-cost : goal.returns-in-Scan-clause-cost
returns-in-Scan-clause-cost t c =
    let is : slice_get c.args.pool.now.nodes c.args.id ≡ Some (node.Scan c.in-Scan.item) = let e = c.node.ensures.is in cc in
    c.scan_cost.ensures ∙ sym (ap (tree_cost c.args.problem.now) (tree_scan c.args.pool.now.nodes c.args.id c.in-Scan.item is))

pub returns-in-Scan-clause-named : goal.returns-in-Scan-clause-named
returns-in-Scan-clause-named t c =
    let is : slice_get c.args.pool.now.nodes c.args.id ≡ Some (node.Scan c.in-Scan.item) = let e = c.node.ensures.is in cc in
    named_scan c.args.pool.now.nodes c.args.id c.in-Scan.item is

pub returns-in-Join-clause-set : goal.returns-in-Join-clause-set
returns-in-Join-clause-set t c =
    let nodes = c.args.pool.now.nodes in
    let is : slice_get nodes c.args.id ≡ Some (node.Join c.in-Join.method c.in-Join.step c.in-Join.left c.in-Join.right) = let e = c.node.ensures.is in cc in
    c.joined.ensures.set ∙ ap₂ bit_or c.weight_of-left.ensures.set c.weight_of-right.ensures.set
    ∙ sym (ap set_of (tree_join nodes c.args.id c.in-Join.method c.in-Join.step c.in-Join.left c.in-Join.right is c.in-Join.ensures.children.0 c.in-Join.ensures.children.1))

pub returns-in-Join-clause-cost : goal.returns-in-Join-clause-cost
returns-in-Join-clause-cost t c =
    let problem = c.args.problem.now in
    let nodes = c.args.pool.now.nodes in
    let is : slice_get nodes c.args.id ≡ Some (node.Join c.in-Join.method c.in-Join.step c.in-Join.left c.in-Join.right) = let e = c.node.ensures.is in cc in
    let costs = ap₂ (λ a b. a + b) c.weight_of-left.ensures.cost c.weight_of-right.ensures.cost in
    let steps = ap₂ (λ a b. cost c.in-Join.method (estimate problem a) (estimate problem b)) c.weight_of-left.ensures.set c.weight_of-right.ensures.set in
    c.joined.ensures.cost ∙ ap₂ (λ a b. a + b) costs steps
    ∙ sym (ap (tree_cost problem) (tree_join nodes c.args.id c.in-Join.method c.in-Join.step c.in-Join.left c.in-Join.right is c.in-Join.ensures.children.0 c.in-Join.ensures.children.1))

pub returns-in-Join-clause-named : goal.returns-in-Join-clause-named
returns-in-Join-clause-named t c =
    let nodes = c.args.pool.now.nodes in
    let is : slice_get nodes c.args.id ≡ Some (node.Join c.in-Join.method c.in-Join.step c.in-Join.left c.in-Join.right) = let e = c.node.ensures.is in cc in
    named_join nodes c.args.id c.in-Join.method c.in-Join.step c.in-Join.left c.in-Join.right is c.in-Join.ensures.children.0 c.in-Join.ensures.children.1 c.weight_of-left.ensures.named c.weight_of-right.ensures.named
