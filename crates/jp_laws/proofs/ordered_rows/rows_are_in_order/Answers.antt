use Rattle.jp_laws.proofs.OrderedRows.{rows_in_order, sorted_in_order}
use Rattle.jp_laws.proofs.ordered_rows.rows_are_in_order.Goals as goal

pub returns : goal.returns
returns c = record { meaning = rows_in_order; sorted = sorted_in_order }
