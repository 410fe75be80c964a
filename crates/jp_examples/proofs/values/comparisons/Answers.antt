use Rattle.jp_examples.proofs.Runs.{meanings}
use Rattle.jp_examples.proofs.values.comparisons.Goals as goal

pub returns-clause-equal : goal.returns-clause-equal
returns-clause-equal c = simp meanings

pub returns-clause-unequal : goal.returns-clause-unequal
returns-clause-unequal c = simp meanings

pub returns-clause-below : goal.returns-clause-below
returns-clause-below c = simp meanings

pub returns-clause-not_below_itself : goal.returns-clause-not_below_itself
returns-clause-not_below_itself c = simp meanings

pub returns-clause-at_most_itself : goal.returns-clause-at_most_itself
returns-clause-at_most_itself c = simp meanings

pub returns-clause-above : goal.returns-clause-above
returns-clause-above c = simp meanings

pub returns-clause-not_above_itself : goal.returns-clause-not_above_itself
returns-clause-not_above_itself c = simp meanings

pub returns-clause-at_least_itself : goal.returns-clause-at_least_itself
returns-clause-at_least_itself c = simp meanings

pub returns-clause-not_at_least : goal.returns-clause-not_at_least
returns-clause-not_at_least c = simp meanings

pub returns-clause-negative_below : goal.returns-clause-negative_below
returns-clause-negative_below c = simp meanings

pub returns-clause-false_below_true : goal.returns-clause-false_below_true
returns-clause-false_below_true c = simp meanings

pub returns-clause-text_below : goal.returns-clause-text_below
returns-clause-text_below c = simp meanings

pub returns-clause-prefix_below : goal.returns-clause-prefix_below
returns-clause-prefix_below c = simp meanings

pub returns-clause-null_unequal : goal.returns-clause-null_unequal
returns-clause-null_unequal c = simp meanings

pub returns-clause-nulls_equal : goal.returns-clause-nulls_equal
returns-clause-nulls_equal c = simp meanings
