use Rattle.jp_laws.proofs.BagRows.{tuples_bag, tuples_ordered}
use Rattle.jp_laws.proofs.row_bags.a_query_sees_its_tuples_as_a_bag.Goals as goal

pub returns : goal.returns
returns c = record { rows = tuples_bag; in_order = tuples_ordered }
