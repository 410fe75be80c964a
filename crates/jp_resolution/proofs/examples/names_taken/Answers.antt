use Rattle.jp_resolution.specs.Resolving.{resolved}
use Rattle.jp_resolution.proofs.TreeRules.{runs}
use Rattle.jp_resolution.proofs.examples.names_taken.Goals as goal

pub returns-clause-no_name_of_its_own : goal.returns-clause-no_name_of_its_own
unfolding resolved
returns-clause-no_name_of_its_own c = simp runs

pub returns-clause-innermost_qualifier : goal.returns-clause-innermost_qualifier
unfolding resolved
returns-clause-innermost_qualifier c = simp runs

pub returns-clause-name_of_outer_level : goal.returns-clause-name_of_outer_level
unfolding resolved
returns-clause-name_of_outer_level c = simp runs

pub returns-clause-column_twice : goal.returns-clause-column_twice
unfolding resolved
returns-clause-column_twice c = simp runs

pub returns-clause-star_of_columns_twice : goal.returns-clause-star_of_columns_twice
unfolding resolved
returns-clause-star_of_columns_twice c = simp runs

pub returns-clause-column_of_two_entries : goal.returns-clause-column_of_two_entries
unfolding resolved
returns-clause-column_of_two_entries c = simp runs

pub returns-clause-inner_level_first : goal.returns-clause-inner_level_first
unfolding resolved
returns-clause-inner_level_first c = simp runs

pub returns-clause-on_sees_outer_levels : goal.returns-clause-on_sees_outer_levels
unfolding resolved
returns-clause-on_sees_outer_levels c = simp runs

pub returns-clause-on_sees_two_sides : goal.returns-clause-on_sees_two_sides
unfolding resolved
returns-clause-on_sees_two_sides c = simp runs

pub returns-clause-sibling_unseen : goal.returns-clause-sibling_unseen
unfolding resolved
returns-clause-sibling_unseen c = simp runs

pub returns-clause-star_of_outer_entry : goal.returns-clause-star_of_outer_entry
unfolding resolved
returns-clause-star_of_outer_entry c = simp runs

pub returns-clause-star_unknown : goal.returns-clause-star_unknown
unfolding resolved
returns-clause-star_unknown c = simp runs

pub returns-clause-outer_star : goal.returns-clause-outer_star
unfolding resolved
returns-clause-outer_star c = simp runs
