use Rattle.std.proofs.Common.{◌≡◌, filter, take}
use Rattle.jp_problem.specs.Blocks.{stays_in_on}
use Rattle.jp_special.proofs.conditions.own_members.Given as goal

abbrev pub invariant-members : goal.invariant-members
invariant-members l = l.own ≡ filter (stays_in_on l.rels l.side) (take l.e-index l.on)
