use Rattle.jp_lists.proofs.AskedLaws.{asked_conditions, asked_evaluated}
use Rattle.jp_lists.proofs.laws.an_expression_asks_for_the_rows_of_its_sublinks_alone.Goals as goal

pub returns : goal.returns
returns c = record { conditions = asked_conditions; evaluated = asked_evaluated }
