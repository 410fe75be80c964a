-- Legal trees of a problem, and the tree that follows the block's own.
use Rattle.std.specs.Prelude.{◌≡◌, ℕ, ◌<◌, bit_or, length, Option, Some, None}
use Rattle.jp_query.specs.declared.Query.{Query}
use Rattle.jp_query.specs.Refs.{only}
use Rattle.jp_problem.specs.declared.types.Problem.{Problem}
use Rattle.jp_problem.specs.declared.types.Method.{Method}
use Rattle.jp_problem.specs.declared.types.Method.TheVariants.{Nest}
use Rattle.jp_problem.specs.declared.types.Step.{Step}
use Rattle.jp_problem.specs.declared.types.Step.TheVariants.{Inner, By}
use Rattle.jp_problem.specs.Shapes.{Shape, nothing, item, beside, filtered, special, block_shape}
use Rattle.jp_problem.specs.declared.types.Place.{Place}
use Rattle.jp_problem.specs.Blocks.{top, behind, in_right_side, number_of}
use Rattle.jp_problem.specs.Problems.{items_of}
use Rattle.jp_problem.specs.Legal.{IsLegalStep}
use Rattle.jp_problem.specs.Keys.{IsAllowed}

-- the scan of an item, or a step of two trees with its method and its kind
pub data Tree : Type 0 where
  Scan : ℕ → Tree
  Join : Method → Step → Tree → Tree → Tree

-- the items of a tree
abbrev pub set_of : Tree → ℕ
set_of (Scan i) = only i
set_of (Join method kind left right) = bit_or (set_of left) (set_of right)

-- each step is legal, and of the kind and by a method that it allows
abbrev pub IsLegalTree : Problem → Tree → Type 0
IsLegalTree problem (Scan i) = i < length problem.items
IsLegalTree problem (Join method kind left right) =
    IsLegalStep problem (set_of left) (set_of right) kind × IsAllowed problem (set_of left) (set_of right) kind method × IsLegalTree problem left × IsLegalTree problem right

-- a legal tree of all items
pub record IsPlan (problem : Problem) (tree : Tree) : Type 0 where
  pub legal : IsLegalTree problem tree
  pub whole : set_of tree ≡ items_of problem

-- ---- the spine

abbrev pub stepped : Step → Option Tree → Option Tree → Option Tree
stepped kind None right = right
stepped kind (Some left) None = Some left
stepped kind (Some left) (Some right) = Some (Join Nest kind left right)

abbrev pub spine_at : Shape → Place → Option Tree
spine_at nothing at = None
spine_at (item tree) at = Some (Scan at.items)
spine_at (beside left right) at = stepped Inner (spine_at left at) (spine_at right (behind left at))
spine_at (filtered shape conds) at = spine_at shape at
spine_at (special kind left right on) at = stepped (By (number_of left right at)) (spine_at left at) (spine_at right (in_right_side left right at))

-- The tree that joins as the block is written: each join is one step of its two sides, the members of a FROM list are joined
-- from left to right, and every method is Nest.
abbrev pub spine : Query → Option Tree
spine query = spine_at (block_shape query) top
