-- The order of the trees of one set, of which the first legal one is the plan.
use Rattle.std.specs.Prelude.{◌≡◌, ℕ, ◌<◌, ◌⊎◌}
use Rattle.jp_problem.specs.declared.types.Problem.{Problem}
use Rattle.jp_problem.specs.declared.types.Method.{Method}
use Rattle.jp_problem.specs.declared.types.Method.TheVariants.{Nest, Hash, HashRight, Merge}
use Rattle.jp_problem.specs.Trees.{Tree, Join, set_of, IsLegalTree}
use Rattle.jp_cost.specs.TreeCosts.{tree_cost}

abbrev pub rank : Method → ℕ
rank Nest = 0
rank Hash = 1
rank HashRight = 2
rank Merge = 3

-- the lesser number is before; where they are equal, what follows tells
abbrev pub Then : ℕ → ℕ → Type 0 → Type 0
Then a b more = (a < b) ⊎ ((a ≡ b) × more)

-- The one tree comes before the other: by cost, then by the left set of the root as a number, then by method, then by the
-- left tree, then by the right tree.
abbrev pub ComesBefore : Problem → Tree → Tree → Type 0
ComesBefore problem (Join m k a b) (Join n l c d) =
    Then (tree_cost problem (Join m k a b)) (tree_cost problem (Join n l c d))
    (Then (set_of a) (set_of c)
    (Then (rank m) (rank n)
    (ComesBefore problem a c ⊎ ((a ≡ c) × ComesBefore problem b d))))
ComesBefore problem a b = tree_cost problem a < tree_cost problem b

-- a legal tree of the set, which none comes before
pub record IsFirst (problem : Problem) (set : ℕ) (tree : Tree) : Type 0 where
  pub legal : IsLegalTree problem tree
  pub covers : set_of tree ≡ set
  pub first : (other : Tree) → IsLegalTree problem other → set_of other ≡ set → ¬ ComesBefore problem other tree
