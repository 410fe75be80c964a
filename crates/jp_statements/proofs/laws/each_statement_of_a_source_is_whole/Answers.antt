use Rattle.jp_statements.proofs.Bounds.{source_whole, source_few}
use Rattle.jp_statements.proofs.laws.each_statement_of_a_source_is_whole.Goals as goal

pub returns-clause-whole : goal.returns-clause-whole
returns-clause-whole c = source_whole

pub returns-clause-few : goal.returns-clause-few
returns-clause-few c = source_few
