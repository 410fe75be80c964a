use Rattle.jp_query.proofs.TreeRules.{folds}
use Rattle.jp_examples.proofs.Runs.{counts}
use Rattle.jp_examples.proofs.typed.refused_for_many_leaves.Goals as goal

pub returns-clause-sixteen : goal.returns-clause-sixteen
returns-clause-sixteen c = simp (folds, counts)

pub returns-clause-seventeen : goal.returns-clause-seventeen
returns-clause-seventeen c = simp (folds, counts)
