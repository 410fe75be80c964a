use Rattle.jp_examples.proofs.Runs.{meanings}
use Rattle.jp_examples.proofs.values.connectives.Goals as goal

pub returns-clause-unknown_and_false : goal.returns-clause-unknown_and_false
returns-clause-unknown_and_false c = simp meanings

pub returns-clause-unknown_and_true : goal.returns-clause-unknown_and_true
returns-clause-unknown_and_true c = simp meanings

pub returns-clause-true_and_true : goal.returns-clause-true_and_true
returns-clause-true_and_true c = simp meanings

pub returns-clause-unknown_or_false : goal.returns-clause-unknown_or_false
returns-clause-unknown_or_false c = simp meanings

pub returns-clause-unknown_or_true : goal.returns-clause-unknown_or_true
returns-clause-unknown_or_true c = simp meanings

pub returns-clause-false_or_false : goal.returns-clause-false_or_false
returns-clause-false_or_false c = simp meanings

pub returns-clause-not_unknown : goal.returns-clause-not_unknown
returns-clause-not_unknown c = simp meanings

pub returns-clause-not_true : goal.returns-clause-not_true
returns-clause-not_true c = simp meanings
