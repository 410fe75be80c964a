use Rattle.jp_query.proofs.TreeRules.{folds}
use Rattle.jp_query.proofs.tree_examples.worked_conditions.Goals as goal

pub returns-clause-typed : goal.returns-clause-typed
returns-clause-typed c = simp folds

pub returns-clause-boolean_output : goal.returns-clause-boolean_output
returns-clause-boolean_output c = simp folds

pub returns-clause-column_of_outer_select : goal.returns-clause-column_of_outer_select
returns-clause-column_of_outer_select c = simp folds

pub returns-clause-placeholder_unknown : goal.returns-clause-placeholder_unknown
returns-clause-placeholder_unknown c = simp folds

pub returns-clause-too_wide : goal.returns-clause-too_wide
returns-clause-too_wide c = simp folds

pub returns-clause-wide_enough : goal.returns-clause-wide_enough
returns-clause-wide_enough c = simp folds

pub returns-clause-copies_of_a_sublink : goal.returns-clause-copies_of_a_sublink
returns-clause-copies_of_a_sublink c = simp folds
