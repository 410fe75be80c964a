use Rattle.jp_query.specs.Meaning.{any_present}
use Rattle.jp_examples.proofs.Runs.{meanings}
use Rattle.jp_examples.proofs.rows.references_across_levels.Goals as goal

pub returns-clause-correlated_sub_select : goal.returns-clause-correlated_sub_select
returns-clause-correlated_sub_select c = simp meanings

pub returns-clause-by_sublink : goal.returns-clause-by_sublink
returns-clause-by_sublink c = simp meanings

pub returns-clause-placeholder_over_join : goal.returns-clause-placeholder_over_join
unfolding any_present
returns-clause-placeholder_over_join c = simp meanings
