use Rattle.std.proofs.Common.{◌≡◌, ◌≤◌, ◌+◌, length}
use Rattle.jp_table.specs.Judging.{rows_read}
use Rattle.jp_table.specs.Storage.{AllHave, rows_of, types_of}
use Rattle.jp_table.proofs.LoadingFacts.{found_and_left}
use Rattle.jp_table.proofs.loading.load_rows.Given as goal

abbrev pub invariant-rows : goal.invariant-rows
invariant-rows l = record {
  count : l.rows + length l.records ≤ length l.initial.records;
  have : AllHave l.rows l.columns.items;
  types : types_of l.columns.items ≡ types_of l.initial.columns.items;
  same : found_and_left (types_of l.initial.columns.items) (rows_of l.columns.items l.rows) l.rows l.records ≡ rows_read (types_of l.initial.columns.items) 0 l.initial.records;
}

abbrev pub decreases-rows : goal.decreases-rows
decreases-rows l = length l.records
