use Rattle.std.proofs.Common.{◌≡◌, [], drop}
use Rattle.std.specs.List.{slice_index_or}
use Rattle.jp_table.proofs.RowKeys.{null_in}
use Rattle.jp_table.proofs.keys.lacks_part.Given as goal

abbrev pub invariant-columns : goal.invariant-columns
invariant-columns l = null_in (slice_index_or l.table l.row []) (drop l.i l.columns) ≡ null_in (slice_index_or l.table l.row []) l.columns
