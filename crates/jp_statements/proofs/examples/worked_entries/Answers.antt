use Rattle.jp_statements.proofs.TreeRules.{folds}
use Rattle.jp_statements.proofs.examples.worked_entries.Goals as goal

pub returns-clause-table : goal.returns-clause-table
returns-clause-table c = simp folds

pub returns-clause-sub_select : goal.returns-clause-sub_select
returns-clause-sub_select c = simp folds

pub returns-clause-join : goal.returns-clause-join
returns-clause-join c = simp folds

pub returns-clause-sublink : goal.returns-clause-sublink
returns-clause-sublink c = simp folds

pub returns-clause-on : goal.returns-clause-on
returns-clause-on c = simp folds
