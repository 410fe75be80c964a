use Rattle.std.proofs.Common.{◌≡◌, take}
use Rattle.jp_base.specs.declared.values.Value.{Value}
use Rattle.jp_joins.specs.Keys.{places_where, table_at}
use Rattle.jp_indexes.specs.Indexes.{has_cell}
use Rattle.jp_indexes.proofs.index.numbers_by_value.Given as goal

abbrev pub invariant-rows : goal.invariant-rows
invariant-rows l = (v : Value) → table_at l.numbers v ≡ places_where (has_cell l.col v) 0 (take l.row l.table)
