use Rattle.jp_query.proofs.TreeRules.{folds}
use Rattle.jp_examples.proofs.Runs.{counts}
use Rattle.jp_examples.proofs.typed.refused_for_columns.Goals as goal

pub returns-clause-relation_unseen : goal.returns-clause-relation_unseen
returns-clause-relation_unseen c = simp (folds, counts)

pub returns-clause-column_missing : goal.returns-clause-column_missing
returns-clause-column_missing c = simp (folds, counts)

pub returns-clause-placeholders : goal.returns-clause-placeholders
returns-clause-placeholders c = simp (folds, counts)

pub returns-clause-sub_select_sees_no_sibling : goal.returns-clause-sub_select_sees_no_sibling
returns-clause-sub_select_sees_no_sibling c = simp (folds, counts)

pub returns-clause-right_of_semi_unseen : goal.returns-clause-right_of_semi_unseen
returns-clause-right_of_semi_unseen c = simp (folds, counts)
