use Rattle.jp_laws.proofs.BagRows.{queries_bag, queries_ordered}
use Rattle.jp_laws.proofs.row_bags.queries_of_the_same_lines_have_the_same_rows.Goals as goal

pub returns : goal.returns
returns c = record { rows = queries_bag; in_order = λ tables query other env d p. queries_ordered tables query other env d p }
