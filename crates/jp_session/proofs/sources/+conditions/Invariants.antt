use Rattle.std.proofs.Common.{◌≡◌, ◌++◌, map, take}
use Rattle.jp_problem.specs.Shapes.{shape_of, together}
use Rattle.jp_session.specs.Parts.{condition_parts}
use Rattle.jp_session.proofs.sources.+conditions.Given as goal

abbrev pub invariant-push_of_members-members : goal.invariant-push_of_members-members
invariant-push_of_members-members l = l.parts.items ≡ l.fn.parts.items ++ condition_parts (together (map shape_of (take l.member-index l.members)))
