-- What a step and its two sides cost.
use Rattle.std.proofs.Common.{◌≡◌, ◌∙◌, subst, ℕ, ◌+◌, ◌^◌, ◌<◌, ◌≤◌, List, Some}
use Rattle.std.specs.Prelude.{slice_get}
use Rattle.jp_problem.specs.declared.types.Method.{Method}
use Rattle.jp_problem.specs.declared.types.Problem.{Problem}
use Rattle.jp_problem.specs.declared.types.Step.{Step}
use Rattle.jp_problem.specs.Made.{IsSearchable}
use Rattle.jp_problem.specs.Trees.{set_of}
use Rattle.jp_cost.specs.Costs.{cost}
use Rattle.jp_cost.specs.Estimates.{estimate}
use Rattle.jp_cost.specs.TreeCosts.{tree_cost}
use Rattle.jp_cost.proofs.CostLaws.{tree_at_most}
use Rattle.jp_tree.specs.declared.pool.PlanNode.{PlanNode}
use Rattle.jp_tree.specs.declared.pool.PlanNode.TheVariants as node
use Rattle.jp_tree.specs.Pools.{IsTreeOf}
use Rattle.jp_tree.specs.PlanTrees.{tree_at, IsLegalAt}
use Rattle.jp_tree.proofs.PlanTreeLaws.{named_join, tree_join}
use Rattle.jp_tree.proofs.PoolLaws.{same_tree}

-- what a step and its two sides cost has room
pub step_fits : (problem : Problem) → IsSearchable problem → (nodes : List PlanNode) (id : ℕ) (m : Method) (s : Step) (l r : ℕ) → IsLegalAt problem nodes id → slice_get nodes id ≡ Some (node.Join m s l r) → l < id → r < id
    → IsTreeOf nodes l (tree_at nodes l) → IsTreeOf nodes r (tree_at nodes r)
    → tree_cost problem (tree_at nodes l) + tree_cost problem (tree_at nodes r) + cost m (estimate problem (set_of (tree_at nodes l))) (estimate problem (set_of (tree_at nodes r))) ≤ 2 ^ 126
step_fits problem ok nodes id m s l r legal is low high on_left on_right =
    let here = tree_join nodes id m s l r is low high in
    let named = named_join nodes id m s l r is low high on_left on_right in
    let same = same_tree nodes id legal.tree (tree_at nodes id) legal.named named in
    subst (λ t. tree_cost problem t ≤ 2 ^ 126) (same ∙ here) (tree_at_most problem ok legal.tree legal.legal)
