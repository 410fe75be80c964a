use Rattle.jp_framed.proofs.RunLaws.{run_legal, same_set}
use Rattle.jp_framed.proofs.trees.runs_of_legal_trees_are_legal.Goals as goal

pub returns : goal.returns
returns c = record {
  legal = λ problem setting tree run m h r. run_legal problem setting m tree run h r;
  items = same_set;
}
