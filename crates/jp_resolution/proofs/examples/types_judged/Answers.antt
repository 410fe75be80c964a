use Rattle.jp_resolution.specs.Resolving.{resolved}
use Rattle.jp_resolution.proofs.TreeRules.{runs}
use Rattle.jp_resolution.proofs.examples.types_judged.Goals as goal

pub returns-clause-sum_of_a_text : goal.returns-clause-sum_of_a_text
unfolding resolved
returns-clause-sum_of_a_text c = simp runs

pub returns-clause-member_of_and : goal.returns-clause-member_of_and
unfolding resolved
returns-clause-member_of_and c = simp runs

pub returns-clause-condition_of_when : goal.returns-clause-condition_of_when
unfolding resolved
returns-clause-condition_of_when c = simp runs

pub returns-clause-condition_in_parentheses : goal.returns-clause-condition_in_parentheses
unfolding resolved
returns-clause-condition_in_parentheses c = simp runs

pub returns-clause-sum_in_condition : goal.returns-clause-sum_in_condition
unfolding resolved
returns-clause-sum_in_condition c = simp runs

pub returns-clause-coalesce_hands_nothing_down : goal.returns-clause-coalesce_hands_nothing_down
unfolding resolved
returns-clause-coalesce_hands_nothing_down c = simp runs

pub returns-clause-signed_null_is_a_number : goal.returns-clause-signed_null_is_a_number
unfolding resolved
returns-clause-signed_null_is_a_number c = simp runs

pub returns-clause-null_condition : goal.returns-clause-null_condition
unfolding resolved
returns-clause-null_condition c = simp runs

pub returns-clause-null_target_of_in : goal.returns-clause-null_target_of_in
unfolding resolved
returns-clause-null_target_of_in c = simp runs

pub returns-clause-null_operand_of_in : goal.returns-clause-null_operand_of_in
unfolding resolved
returns-clause-null_operand_of_in c = simp runs

pub returns-clause-two_columns_of_in : goal.returns-clause-two_columns_of_in
unfolding resolved
returns-clause-two_columns_of_in c = simp runs

pub returns-clause-unknown_inside_in : goal.returns-clause-unknown_inside_in
unfolding resolved
returns-clause-unknown_inside_in c = simp runs

pub returns-clause-simple_case : goal.returns-clause-simple_case
unfolding resolved
returns-clause-simple_case c = simp runs

pub returns-clause-results_of_case : goal.returns-clause-results_of_case
unfolding resolved
returns-clause-results_of_case c = simp runs

pub returns-clause-null_is_a_text : goal.returns-clause-null_is_a_text
unfolding resolved
returns-clause-null_is_a_text c = simp runs

pub returns-clause-is_null_of_a_text : goal.returns-clause-is_null_of_a_text
unfolding resolved
returns-clause-is_null_of_a_text c = simp runs

pub returns-clause-is_true_of_a_text : goal.returns-clause-is_true_of_a_text
unfolding resolved
returns-clause-is_true_of_a_text c = simp runs
