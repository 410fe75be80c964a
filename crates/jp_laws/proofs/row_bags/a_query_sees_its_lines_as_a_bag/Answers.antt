use Rattle.jp_laws.proofs.BagRows.{rows_bag, rows_ordered}
use Rattle.jp_laws.proofs.row_bags.a_query_sees_its_lines_as_a_bag.Goals as goal

pub returns : goal.returns
returns c = record { rows = rows_bag; in_order = rows_ordered }
