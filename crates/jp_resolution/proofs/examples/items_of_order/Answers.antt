use Rattle.jp_resolution.specs.Resolving.{resolved}
use Rattle.jp_resolution.proofs.TreeRules.{runs}
use Rattle.jp_resolution.proofs.examples.items_of_order.Goals as goal

pub returns-clause-output_by_name : goal.returns-clause-output_by_name
unfolding resolved
returns-clause-output_by_name c = simp runs

pub returns-clause-no_name_in_an_expression : goal.returns-clause-no_name_in_an_expression
unfolding resolved
returns-clause-no_name_in_an_expression c = simp runs

pub returns-clause-signed_name : goal.returns-clause-signed_name
unfolding resolved
returns-clause-signed_name c = simp runs

pub returns-clause-equal_outputs : goal.returns-clause-equal_outputs
unfolding resolved
returns-clause-equal_outputs c = simp runs

pub returns-clause-different_outputs : goal.returns-clause-different_outputs
unfolding resolved
returns-clause-different_outputs c = simp runs

pub returns-clause-outputs_without_name : goal.returns-clause-outputs_without_name
unfolding resolved
returns-clause-outputs_without_name c = simp runs

pub returns-clause-output_by_number : goal.returns-clause-output_by_number
unfolding resolved
returns-clause-output_by_number c = simp runs

pub returns-clause-number_zero : goal.returns-clause-number_zero
unfolding resolved
returns-clause-number_zero c = simp runs

pub returns-clause-number_beyond : goal.returns-clause-number_beyond
unfolding resolved
returns-clause-number_beyond c = simp runs

pub returns-clause-number_with_plus : goal.returns-clause-number_with_plus
unfolding resolved
returns-clause-number_with_plus c = simp runs

pub returns-clause-number_with_minus : goal.returns-clause-number_with_minus
unfolding resolved
returns-clause-number_with_minus c = simp runs

pub returns-clause-text_as_position : goal.returns-clause-text_as_position
unfolding resolved
returns-clause-text_as_position c = simp runs

pub returns-clause-null_as_position : goal.returns-clause-null_as_position
unfolding resolved
returns-clause-null_as_position c = simp runs

pub returns-clause-two_signs : goal.returns-clause-two_signs
unfolding resolved
returns-clause-two_signs c = simp runs

pub returns-clause-distinct_signed_column : goal.returns-clause-distinct_signed_column
unfolding resolved
returns-clause-distinct_signed_column c = simp runs

pub returns-clause-distinct_qualified_column : goal.returns-clause-distinct_qualified_column
unfolding resolved
returns-clause-distinct_qualified_column c = simp runs

pub returns-clause-distinct_other_column : goal.returns-clause-distinct_other_column
unfolding resolved
returns-clause-distinct_other_column c = simp runs

pub returns-clause-distinct_turned_sum : goal.returns-clause-distinct_turned_sum
unfolding resolved
returns-clause-distinct_turned_sum c = simp runs

pub returns-clause-distinct_sublink_again : goal.returns-clause-distinct_sublink_again
unfolding resolved
returns-clause-distinct_sublink_again c = simp runs

pub returns-clause-distinct_sublink_by_name : goal.returns-clause-distinct_sublink_by_name
unfolding resolved
returns-clause-distinct_sublink_by_name c = simp runs

pub returns-clause-names_of_outputs : goal.returns-clause-names_of_outputs
unfolding resolved
returns-clause-names_of_outputs c = simp runs
