use Rattle.jp_examples.proofs.Runs.{meanings}
use Rattle.jp_examples.proofs.values.tests_of_is.Goals as goal

pub returns-clause-unknown_is_null : goal.returns-clause-unknown_is_null
returns-clause-unknown_is_null c = simp meanings

pub returns-clause-zero_is_not_null : goal.returns-clause-zero_is_not_null
returns-clause-zero_is_not_null c = simp meanings

pub returns-clause-unknown_is_true : goal.returns-clause-unknown_is_true
returns-clause-unknown_is_true c = simp meanings

pub returns-clause-unknown_is_not_true : goal.returns-clause-unknown_is_not_true
returns-clause-unknown_is_not_true c = simp meanings

pub returns-clause-true_is_not_true : goal.returns-clause-true_is_not_true
returns-clause-true_is_not_true c = simp meanings

pub returns-clause-false_is_false : goal.returns-clause-false_is_false
returns-clause-false_is_false c = simp meanings

pub returns-clause-unknown_is_false : goal.returns-clause-unknown_is_false
returns-clause-unknown_is_false c = simp meanings

pub returns-clause-unknown_is_not_false : goal.returns-clause-unknown_is_not_false
returns-clause-unknown_is_not_false c = simp meanings

pub returns-clause-false_is_unknown : goal.returns-clause-false_is_unknown
returns-clause-false_is_unknown c = simp meanings

pub returns-clause-unknown_is_unknown : goal.returns-clause-unknown_is_unknown
returns-clause-unknown_is_unknown c = simp meanings

pub returns-clause-unknown_is_not_unknown : goal.returns-clause-unknown_is_not_unknown
returns-clause-unknown_is_not_unknown c = simp meanings
