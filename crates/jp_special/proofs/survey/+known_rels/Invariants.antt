use Rattle.std.proofs.Common.{◌≡◌, map, take}
use Rattle.jp_query.specs.Refs.{union}
use Rattle.jp_problem.specs.Blocks.{known_rels}
use Rattle.jp_special.proofs.survey.+known_rels.Given as goal

abbrev pub invariant-known_rels_of_members-members : goal.invariant-known_rels_of_members-members
invariant-known_rels_of_members-members l = l.rels ≡ union (map known_rels (take l.member-index l.members))
