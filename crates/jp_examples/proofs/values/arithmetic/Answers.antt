use Rattle.jp_examples.proofs.Runs.{meanings}
use Rattle.jp_examples.proofs.values.arithmetic.Goals as goal

pub returns-clause-sign : goal.returns-clause-sign
returns-clause-sign c = simp meanings

pub returns-clause-two_signs : goal.returns-clause-two_signs
returns-clause-two_signs c = simp meanings

pub returns-clause-subtracted : goal.returns-clause-subtracted
returns-clause-subtracted c = simp meanings

pub returns-clause-subtracted_below_zero : goal.returns-clause-subtracted_below_zero
returns-clause-subtracted_below_zero c = simp meanings

pub returns-clause-null_times_zero : goal.returns-clause-null_times_zero
returns-clause-null_times_zero c = simp meanings

pub returns-clause-null_added : goal.returns-clause-null_added
returns-clause-null_added c = simp meanings

pub returns-clause-null_subtracted : goal.returns-clause-null_subtracted
returns-clause-null_subtracted c = simp meanings

pub returns-clause-null_sign : goal.returns-clause-null_sign
returns-clause-null_sign c = simp meanings

pub returns-clause-joined : goal.returns-clause-joined
returns-clause-joined c = simp meanings

pub returns-clause-null_joined : goal.returns-clause-null_joined
returns-clause-null_joined c = simp meanings

pub returns-clause-product : goal.returns-clause-product
returns-clause-product c = simp meanings

pub returns-clause-negative_product : goal.returns-clause-negative_product
returns-clause-negative_product c = simp meanings
