use Rattle.std.proofs.Common.{◌≡◌, map, take}
use Rattle.jp_problem.specs.Shapes.{shape_of, together}
use Rattle.jp_special.specs.Walks.{kinds_in}
use Rattle.jp_special.proofs.kinds.+kinds.Given as goal

abbrev pub invariant-member_kinds-members : goal.invariant-member_kinds-members
invariant-member_kinds-members l = l.kinds ≡ kinds_in (together (map shape_of (take l.member-index l.members)))
