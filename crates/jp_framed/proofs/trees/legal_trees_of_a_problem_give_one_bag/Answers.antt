use Rattle.jp_framed.proofs.RunLaws.{run_bag, run_once, one_bag, one_bag_of_tuples}
use Rattle.jp_framed.proofs.trees.legal_trees_of_a_problem_give_one_bag.Goals as goal

pub returns : goal.returns
returns c = record {
  rows = λ problem setting tree run made. run_bag problem setting made tree run;
  once = λ problem setting tree run made. run_once problem setting made tree run;
  maps = λ problem setting tree other run another made. one_bag problem setting made tree other run another;
  tuples = λ problem setting tree other run another made. one_bag_of_tuples problem setting made tree other run another;
}
