-- What the table knows.
use Rattle.std.specs.Prelude.{◌≡◌, ℕ, ◌<◌, List, Option, Some, None}
use Rattle.jp_problem.specs.declared.types.Problem.{Problem}
use Rattle.jp_problem.specs.Trees.{Tree, IsLegalTree, set_of}
use Rattle.jp_cost.specs.Estimates.{estimate}
use Rattle.jp_tree.specs.declared.pool.PlanNode.{PlanNode}
use Rattle.jp_tree.specs.Pools.{IsTreeOf}
use Rattle.jp_search.specs.declared.table.Found.{Found}
use Rattle.jp_search.specs.Joins.{facts_of}
use Rattle.jp_search.specs.Tables.{entry_at}
use Rattle.jp_cost.specs.TreeCosts.{tree_cost}
use Rattle.jp_search.specs.TreeOrder.{IsFirst}

-- nothing where the set has no legal tree, else its first one with its cost, the set's estimate, and what it says of the joins
abbrev pub IsEntry : Problem → List PlanNode → ℕ → Option Found → Type 0
IsEntry problem nodes set None = (tree : Tree) → IsLegalTree problem tree → ¬ (set_of tree ≡ set)
IsEntry problem nodes set (Some found) = (tree : Tree) × IsTreeOf nodes found.plan tree × IsFirst problem set tree × (found.cost ≡ tree_cost problem tree) × (found.rows ≡ estimate problem set) × (found.facts ≡ facts_of problem.joins set)

-- the entries of all sets below this one as numbers are theirs
pub record Knows (problem : Problem) (nodes : List PlanNode) (entries : List (Option Found)) (below : ℕ) : Type 0 where
  pub known : (set : ℕ) → set < below → IsEntry problem nodes set (entry_at entries set)
