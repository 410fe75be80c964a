-- The tree that a number names in a pool of nodes, in which the children of a node have lesser numbers than it.
use Rattle.std.specs.Prelude.{ℕ, zero, suc, nat_lt, ◌&&◌, List, Option, Some, None, slice_get, if◌then◌else◌}
use Rattle.jp_problem.specs.declared.types.Problem.{Problem}
use Rattle.jp_problem.specs.Trees.{Tree, IsLegalTree}
use Rattle.jp_problem.specs.Trees as tree
use Rattle.jp_tree.specs.declared.pool.PlanNode.{PlanNode}
use Rattle.jp_tree.specs.declared.pool.PlanNode.TheVariants as node
use Rattle.jp_tree.specs.Pools.{IsTreeOf}

-- the tree of a node, by those of its children; where there is no such tree, a scan
abbrev pub tree_by : (ℕ → Tree) → ℕ → Option PlanNode → Tree
tree_by named id (Some (node.Scan item)) = tree.Scan item
tree_by named id (Some (node.Join method step left right)) = if nat_lt left id && nat_lt right id then tree.Join method step (named left) (named right) else tree.Scan 0
tree_by named id None = tree.Scan 0

-- by so many steps down
unfoldable pub tree_within : ℕ → List PlanNode → ℕ → Tree
tree_within zero nodes id = tree.Scan 0
tree_within (suc steps) nodes id = tree_by (tree_within steps nodes) id (slice_get nodes id)

-- each step comes to a lesser number
unfoldable pub tree_at : List PlanNode → ℕ → Tree
tree_at nodes id = tree_within (suc id) nodes id

-- the number names a legal tree
pub record IsLegalAt (problem : Problem) (nodes : List PlanNode) (id : ℕ) : Type 0 where
  pub tree : Tree
  pub named : IsTreeOf nodes id tree
  pub legal : IsLegalTree problem tree
