use Rattle.jp_statements.proofs.Bounds.{derived_whole, derived_few}
use Rattle.jp_statements.proofs.laws.each_derived_statement_is_whole.Goals as goal

pub returns-clause-whole : goal.returns-clause-whole
returns-clause-whole c = derived_whole

pub returns-clause-few : goal.returns-clause-few
returns-clause-few c = derived_few
