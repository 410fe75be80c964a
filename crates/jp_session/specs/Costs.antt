-- Plans, and what they cost.
use Rattle.std.specs.Prelude.{◌≡◌, ℕ, List}
use Rattle.jp_cost.specs.TreeCosts.{tree_cost}
use Rattle.jp_problem.specs.declared.types.Problem.{Problem}
use Rattle.jp_problem.specs.Trees.{Tree, IsLegalTree, set_of}
use Rattle.jp_tree.specs.declared.pool.PlanNode.{PlanNode}
use Rattle.jp_tree.specs.Pools.{IsTreeOf}

-- the number names a legal tree
pub record IsLegalPlan (problem : Problem) (nodes : List PlanNode) (plan : ℕ) : Type 0 where
  pub tree : Tree
  pub is : IsTreeOf nodes plan tree
  pub legal : IsLegalTree problem tree

pub record IsPricedAs (problem : Problem) (tree : Tree) (set cost : ℕ) : Type 0 where
  pub covers : set ≡ set_of tree
  pub costs : cost ≡ tree_cost problem tree
