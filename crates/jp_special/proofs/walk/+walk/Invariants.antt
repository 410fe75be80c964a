use Rattle.std.proofs.Common.{◌≡◌}
use Rattle.jp_problem.specs.Blocks.{behind}
use Rattle.jp_special.specs.Walks.{walk_of}
use Rattle.jp_special.proofs.WalkLaws.{first_members}
use Rattle.jp_special.proofs.walk.+walk.Given as goal

abbrev pub invariant-walk_members-members : goal.invariant-walk_members-members
invariant-walk_members-members l = (l.there ≡ behind (first_members l.members l.member-index) l.fn.at) × (l.walked ≡ walk_of l.rels (first_members l.members l.member-index) l.fn.at)
