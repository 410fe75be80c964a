use Rattle.jp_query.proofs.TreeRules.{folds}
use Rattle.jp_examples.proofs.Runs.{counts}
use Rattle.jp_examples.proofs.typed.refused_for_numbers.Goals as goal

pub returns-clause-distinct : goal.returns-clause-distinct
returns-clause-distinct c = simp (folds, counts)

pub returns-clause-apart : goal.returns-clause-apart
returns-clause-apart c = simp (folds, counts)

pub returns-clause-tables : goal.returns-clause-tables
returns-clause-tables c = simp (folds, counts)

pub returns-clause-rooted : goal.returns-clause-rooted
returns-clause-rooted c = simp (folds, counts)
