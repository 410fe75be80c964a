use Rattle.jp_query.proofs.TreeRules.{folds, paras}
use Rattle.jp_query.proofs.tree_examples.worked_freshness.Goals as goal

pub returns-clause-sublinks : goal.returns-clause-sublinks
returns-clause-sublinks c = simp paras

pub returns-clause-copy_in_order : goal.returns-clause-copy_in_order
returns-clause-copy_in_order c = simp folds

pub returns-clause-copy_in_where : goal.returns-clause-copy_in_where
returns-clause-copy_in_where c = simp folds

pub returns-clause-copy_in_copies : goal.returns-clause-copy_in_copies
returns-clause-copy_in_copies c = simp folds

pub returns-clause-copy_in_one_sublink : goal.returns-clause-copy_in_one_sublink
returns-clause-copy_in_one_sublink c = simp folds
