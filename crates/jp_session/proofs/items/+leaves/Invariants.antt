use Rattle.std.proofs.Common.{◌≡◌, ◌++◌, map, take}
use Rattle.jp_problem.specs.Shapes.{items_in, shape_of, together}
use Rattle.jp_session.specs.Items.{lent}
use Rattle.jp_session.proofs.items.+leaves.Given as goal

abbrev pub invariant-push_leaves_of-members : goal.invariant-push_leaves_of-members
invariant-push_leaves_of-members l = lent l.leaves.items ≡ lent l.fn.leaves.items ++ items_in (together (map shape_of (take l.member-index l.members)))
