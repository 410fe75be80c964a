use Rattle.jp_query.proofs.TreeRules.{folds}
use Rattle.jp_query.proofs.tree_examples.worked_parts.Goals as goal

pub returns-clause-sublinks_included : goal.returns-clause-sublinks_included
returns-clause-sublinks_included c = simp folds

pub returns-clause-outer : goal.returns-clause-outer
returns-clause-outer c = simp folds

pub returns-clause-nodes : goal.returns-clause-nodes
returns-clause-nodes c = simp folds
