use Rattle.jp_framed.proofs.StepLaws.{legal_from}
use Rattle.jp_framed.proofs.trees.legal_steps_are_legal_in_the_frame.Goals as goal

pub returns : goal.returns
returns c = λ problem setting left right kind m h. legal_from problem setting m left right kind h
