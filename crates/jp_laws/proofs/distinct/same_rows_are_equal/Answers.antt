use Rattle.jp_laws.proofs.ValueLaws.{rows_equal, rows_same}
use Rattle.jp_laws.proofs.distinct.same_rows_are_equal.Goals as goal

pub returns : goal.returns
returns c = record { equal = rows_equal; same = rows_same }
