use Rattle.jp_conditions.proofs.SideClauses.{made_stands}
use Rattle.jp_conditions.proofs.regions.clauses_of_a_side_stand_in_it.Goals as goal

pub returns : goal.returns
returns c = made_stands
