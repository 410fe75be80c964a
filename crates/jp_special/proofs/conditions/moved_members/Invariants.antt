use Rattle.std.proofs.Common.{◌≡◌, filter, map, take}
use Rattle.jp_problem.specs.Blocks.{is_clause_of_side, placed_in}
use Rattle.jp_special.proofs.conditions.moved_members.Given as goal

abbrev pub invariant-members : goal.invariant-members
invariant-members l = l.moved ≡ map (placed_in l.rels l.region) (filter (is_clause_of_side l.rels l.side) (take l.e-index l.on))
