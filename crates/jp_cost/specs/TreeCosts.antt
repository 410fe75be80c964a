-- What a tree costs: the sum over its scans and its steps.
use Rattle.std.specs.Prelude.{ℕ, ◌+◌, Option, Some, None, slice_get}
use Rattle.jp_problem.specs.declared.types.Problem.{Problem}
use Rattle.jp_problem.specs.declared.types.Item.{Item}
use Rattle.jp_problem.specs.Trees.{Tree, Scan, Join, set_of}
use Rattle.jp_cost.specs.Costs.{cost}
use Rattle.jp_cost.specs.Estimates.{estimate}

abbrev pub scan_cost : Option Item → ℕ
scan_cost (Some item) = item.cost
scan_cost None = 0

abbrev pub tree_cost : Problem → Tree → ℕ
tree_cost problem (Scan i) = scan_cost (slice_get problem.items i)
tree_cost problem (Join method kind left right) =
    tree_cost problem left + tree_cost problem right + cost method (estimate problem (set_of left)) (estimate problem (set_of right))
