use Rattle.std.proofs.Common.{◌≡◌, [], map, take}
use Rattle.std.specs.List.{slice_index_or}
use Rattle.jp_table.specs.Parts.{value_of_part}
use Rattle.jp_table.proofs.RowKeys.{values_in}
use Rattle.jp_table.proofs.keys.parts_of.Given as goal

abbrev pub invariant-columns : goal.invariant-columns
invariant-columns l = map value_of_part l.parts.items ≡ values_in (slice_index_or l.table l.row []) (take l.i l.columns)
