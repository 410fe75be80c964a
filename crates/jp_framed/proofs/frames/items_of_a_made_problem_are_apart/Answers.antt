use Rattle.jp_framed.proofs.MadeLaws.{made_apart, made_typed}
use Rattle.jp_framed.proofs.frames.items_of_a_made_problem_are_apart.Goals as goal

pub returns : goal.returns
returns c = record { apart = made_apart; typed = made_typed }
