-- Indexes of tables.
use Rattle.std.specs.Prelude.{◌≡◌, ℕ, Bool, Some}
use Rattle.jp_base.specs.declared.values.Value.{Value}
use Rattle.jp_base.specs.Values.{are_equal}
use Rattle.jp_query.specs.Meaning.{Row, cell_in}
use Rattle.jp_query.specs.Tables.{TableRows, rows_of_tables}
use Rattle.jp_joins.specs.Keys.{places_where, table_at}
use Rattle.jp_indexes.specs.declared.index.Index.{Index}

-- the cell of a row is equal to the value
abbrev pub has_cell : ℕ → Value → Row → Bool
has_cell col v row = are_equal v (cell_in (Some row) col)

-- for each value the index lists the rows of its table, by number, whose cell is equal to it
abbrev pub IsIndex : TableRows → Index → Type 0
IsIndex tables index = (v : Value) → table_at index.numbers v ≡ places_where (has_cell index.col v) 0 (rows_of_tables tables index.table)
