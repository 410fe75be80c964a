-- How large a tree of a test is.
use Rattle.std.specs.Prelude.{ℕ, ◌+◌, length}
use Rattle.jp_query.specs.declared.JoinTree.{JoinTree}
use Rattle.jp_problem.specs.Shapes.{items_in, count_joins, shape_of}

-- its items and its special joins
unfoldable pub size : JoinTree → ℕ
size t = length (items_in (shape_of t)) + count_joins (shape_of t)
