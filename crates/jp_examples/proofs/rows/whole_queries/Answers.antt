use Rattle.jp_examples.proofs.Runs.{meanings}
use Rattle.jp_examples.proofs.rows.whole_queries.Goals as goal

pub returns-clause-by_two_keys : goal.returns-clause-by_two_keys
returns-clause-by_two_keys c = simp meanings

pub returns-clause-all_parts : goal.returns-clause-all_parts
returns-clause-all_parts c = simp meanings
