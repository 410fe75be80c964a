use Rattle.jp_frame.specs.Trees.{set_of, rows_of}
use Rattle.jp_frame.proofs.TreeLaws.{tree_lists, tree_bag, once_from}
use Rattle.jp_frame.proofs.steps.legal_trees_give_one_bag.Goals as goal

pub returns : goal.returns
returns c = record {
  bag = λ f tree ok. tree_bag f ok tree;
  once = λ f tree ok legal. once_from f (set_of tree) (rows_of f tree) (tree_lists f ok tree legal);
}
