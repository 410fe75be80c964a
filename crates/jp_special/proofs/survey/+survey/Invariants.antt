use Rattle.std.proofs.Common.{◌≡◌, map, take}
use Rattle.jp_problem.specs.Blocks.{item_rels}
use Rattle.jp_problem.specs.Shapes.{shape_of, together}
use Rattle.jp_special.proofs.survey.+survey.Given as goal

abbrev pub invariant-member_rels-members : goal.invariant-member_rels-members
invariant-member_rels-members l = l.rels ≡ item_rels (together (map shape_of (take l.member-index l.members)))
