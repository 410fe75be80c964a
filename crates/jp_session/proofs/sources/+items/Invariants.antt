use Rattle.std.proofs.Common.{◌≡◌, ◌++◌, map, take}
use Rattle.jp_problem.specs.Shapes.{shape_of, together}
use Rattle.jp_session.specs.Parts.{item_parts}
use Rattle.jp_session.proofs.sources.+items.Given as goal

abbrev pub invariant-push_members-members : goal.invariant-push_members-members
invariant-push_members-members l = l.parts.items ≡ l.fn.parts.items ++ item_parts (together (map shape_of (take l.member-index l.members)))
