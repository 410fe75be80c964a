use Rattle.std.proofs.Common.{◌≡◌}
use Rattle.jp_special.proofs.OutlineLaws.{found_in}
use Rattle.jp_special.proofs.WalkLaws.{first_members}
use Rattle.jp_special.proofs.outlines.+conditions.Given as goal

abbrev pub invariant-in_members-members : goal.invariant-in_members-members
invariant-in_members-members l = l.all ≡ found_in (first_members l.members l.member-index)
