use Rattle.jp_resolution.specs.Resolving.{resolved}
use Rattle.jp_resolution.proofs.TreeRules.{runs}
use Rattle.jp_resolution.proofs.examples.walked_in_order.Goals as goal

pub returns-clause-where_before_targets : goal.returns-clause-where_before_targets
unfolding resolved
returns-clause-where_before_targets c = simp runs

pub returns-clause-targets_before_order : goal.returns-clause-targets_before_order
unfolding resolved
returns-clause-targets_before_order c = simp runs

pub returns-clause-on_before_later_entries : goal.returns-clause-on_before_later_entries
unfolding resolved
returns-clause-on_before_later_entries c = simp runs

pub returns-clause-entry_before_on : goal.returns-clause-entry_before_on
unfolding resolved
returns-clause-entry_before_on c = simp runs

pub returns-clause-table_before_its_name : goal.returns-clause-table_before_its_name
unfolding resolved
returns-clause-table_before_its_name c = simp runs

pub returns-clause-inside_before_its_name : goal.returns-clause-inside_before_its_name
unfolding resolved
returns-clause-inside_before_its_name c = simp runs

pub returns-clause-repeated_sub_select : goal.returns-clause-repeated_sub_select
unfolding resolved
returns-clause-repeated_sub_select c = simp runs

pub returns-clause-operands_before_type : goal.returns-clause-operands_before_type
unfolding resolved
returns-clause-operands_before_type c = simp runs

pub returns-clause-bound_before_next_operand : goal.returns-clause-bound_before_next_operand
unfolding resolved
returns-clause-bound_before_next_operand c = simp runs
