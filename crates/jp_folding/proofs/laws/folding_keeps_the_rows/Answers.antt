use Rattle.jp_folding.proofs.FoldingLaws.{value_same, relations_same, tuples_same, rows_same, statement_same}
use Rattle.jp_folding.proofs.laws.folding_keeps_the_rows.Goals as goal

pub returns : goal.returns
returns c = record { value = value_same; relations = relations_same; tuples = tuples_same; rows = rows_same; statement = statement_same }
