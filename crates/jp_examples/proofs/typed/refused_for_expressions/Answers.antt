use Rattle.jp_query.proofs.TreeRules.{folds}
use Rattle.jp_examples.proofs.Runs.{counts}
use Rattle.jp_examples.proofs.typed.refused_for_expressions.Goals as goal

pub returns-clause-typed : goal.returns-clause-typed
returns-clause-typed c = simp (folds, counts)

pub returns-clause-other_type_stated : goal.returns-clause-other_type_stated
returns-clause-other_type_stated c = simp (folds, counts)

pub returns-clause-literal_of_another_type : goal.returns-clause-literal_of_another_type
returns-clause-literal_of_another_type c = simp (folds, counts)

pub returns-clause-condition_is_a_number : goal.returns-clause-condition_is_a_number
returns-clause-condition_is_a_number c = simp (folds, counts)

pub returns-clause-leaf_64 : goal.returns-clause-leaf_64
returns-clause-leaf_64 c = simp (folds, counts)

pub returns-clause-in_two_columns : goal.returns-clause-in_two_columns
returns-clause-in_two_columns c = simp (folds, counts)

pub returns-clause-results_of_two_types : goal.returns-clause-results_of_two_types
returns-clause-results_of_two_types c = simp (folds, counts)

pub returns-clause-no_member : goal.returns-clause-no_member
returns-clause-no_member c = simp (folds, counts)

pub returns-clause-column_of_64 : goal.returns-clause-column_of_64
returns-clause-column_of_64 c = simp (folds, counts)

pub returns-clause-column_of_63 : goal.returns-clause-column_of_63
returns-clause-column_of_63 c = simp (folds, counts)
