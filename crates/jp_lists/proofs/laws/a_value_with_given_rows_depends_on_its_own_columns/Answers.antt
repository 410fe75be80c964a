use Rattle.jp_lists.proofs.GivenCells.{value_by_own}
use Rattle.jp_lists.proofs.laws.a_value_with_given_rows_depends_on_its_own_columns.Goals as goal

pub returns : goal.returns
returns c = value_by_own
