use Rattle.std.proofs.Common.{◌≡◌, map, take}
use Rattle.jp_base.specs.Cells.{value_of_cell}
use Rattle.jp_query.specs.Operators.{any_of}
use Rattle.jp_eval.specs.Computed.{equality_of_row}
use Rattle.jp_eval.proofs.operators.is_among_rows.Given as goal

abbrev pub invariant-loop-row : goal.invariant-loop-row
invariant-loop-row l = l.any ≡ any_of (map (equality_of_row (value_of_cell l.operand)) (take l.row-index l.rows))
