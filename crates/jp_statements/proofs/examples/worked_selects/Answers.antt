use Rattle.jp_statements.proofs.TreeRules.{folds}
use Rattle.jp_statements.proofs.examples.worked_selects.Goals as goal

pub returns-clause-whole : goal.returns-clause-whole
returns-clause-whole c = simp folds

pub returns-clause-no_target : goal.returns-clause-no_target
returns-clause-no_target c = simp folds

pub returns-clause-no_item : goal.returns-clause-no_item
returns-clause-no_item c = simp folds

pub returns-clause-no_item_in_a_sublink : goal.returns-clause-no_item_in_a_sublink
returns-clause-no_item_in_a_sublink c = simp folds

pub returns-clause-condition : goal.returns-clause-condition
returns-clause-condition c = simp folds

pub returns-clause-no_condition : goal.returns-clause-no_condition
returns-clause-no_condition c = simp folds

pub returns-clause-cross : goal.returns-clause-cross
returns-clause-cross c = simp folds

pub returns-clause-condition_of_cross : goal.returns-clause-condition_of_cross
returns-clause-condition_of_cross c = simp folds

pub returns-clause-one_member : goal.returns-clause-one_member
returns-clause-one_member c = simp folds

pub returns-clause-two_members : goal.returns-clause-two_members
returns-clause-two_members c = simp folds

pub returns-clause-widest : goal.returns-clause-widest
returns-clause-widest c = simp folds

pub returns-clause-too_wide : goal.returns-clause-too_wide
returns-clause-too_wide c = simp folds

pub returns-clause-below_zero : goal.returns-clause-below_zero
returns-clause-below_zero c = simp folds
