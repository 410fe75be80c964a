use Rattle.jp_examples.proofs.Runs.{surely_rolls}
use Rattle.jp_examples.proofs.nullness.absent_under_operators.Goals as goal

pub returns-clause-sum : goal.returns-clause-sum
returns-clause-sum c = simp surely_rolls

pub returns-clause-product : goal.returns-clause-product
returns-clause-product c = simp surely_rolls

pub returns-clause-sign : goal.returns-clause-sign
returns-clause-sign c = simp surely_rolls

pub returns-clause-concat : goal.returns-clause-concat
returns-clause-concat c = simp surely_rolls

pub returns-clause-each_member : goal.returns-clause-each_member
returns-clause-each_member c = simp surely_rolls

pub returns-clause-one_member : goal.returns-clause-one_member
returns-clause-one_member c = simp surely_rolls

pub returns-clause-arm : goal.returns-clause-arm
returns-clause-arm c = simp surely_rolls

pub returns-clause-other_column : goal.returns-clause-other_column
returns-clause-other_column c = simp surely_rolls

pub returns-clause-same_column : goal.returns-clause-same_column
returns-clause-same_column c = simp surely_rolls
