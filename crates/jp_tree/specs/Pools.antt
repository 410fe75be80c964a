-- Plan nodes by number, and the trees that the numbers name.
use Rattle.std.specs.Prelude.{◌≡◌, ◌<◌, ℕ, ⊤, List, ◌++◌, length, get_or, slice_get, Some}
use Rattle.jp_problem.specs.Trees.{Tree}
use Rattle.jp_problem.specs.Trees as tree
use Rattle.jp_tree.specs.declared.pool.PlanNode.{PlanNode}
use Rattle.jp_tree.specs.declared.pool.PlanNode.TheVariants.{Scan, Join}

-- the nodes of a pool, and how many more it takes without memory
pub record Nodes : Type 0 where
  pub nodes : List PlanNode
  pub spare : ℕ

abbrev pub HasChildrenBelow : ℕ → PlanNode → Type 0
HasChildrenBelow n (Scan item) = ⊤
HasChildrenBelow n (Join method step left right) = (left < n) × (right < n)

-- the children of each node stand before it
abbrev pub IsPool : List PlanNode → Type 0
IsPool nodes = (i : ℕ) (d : PlanNode) → i < length nodes → HasChildrenBelow i (get_or nodes i d)

-- the number names this tree
abbrev pub IsTreeOf : List PlanNode → ℕ → Tree → Type 0
IsTreeOf nodes id (tree.Scan item) = slice_get nodes id ≡ Some (Scan item)
IsTreeOf nodes id (tree.Join method step left right) = (l : ℕ) × (r : ℕ) × (slice_get nodes id ≡ Some (Join method step l r)) × IsTreeOf nodes l left × IsTreeOf nodes r right

-- the earlier nodes stay, before others
abbrev pub GrowsTo : List PlanNode → List PlanNode → Type 0
GrowsTo old new = (more : List PlanNode) × (new ≡ old ++ more)
