-- What the rows of an item are: an environment for each, of which the item's relations alone are looked at.
use Rattle.std.specs.Prelude.{◌≡◌, ℕ, ◌==◌, List, [], ◌∷◌, map, Option, Some, None, slice_get, slice_index_or, if◌then◌else◌}
use Rattle.jp_query.specs.Meaning.{Row, Env, no_outer_rows, with_row}
use Rattle.jp_query.specs.Tables.{TableRows, rows_of_tables}
use Rattle.jp_lists.specs.Lists.{only_rows}
use Rattle.jp_items.specs.declared.rows.Source.{Source}
use Rattle.jp_items.specs.declared.rows.Source.TheVariants as source
use Rattle.jp_items.specs.declared.rows.RelRows.{RelRows}
use Rattle.jp_items.specs.declared.rows.ItemRows.{ItemRows}
use Rattle.jp_items.specs.declared.rows.ItemRows.TheVariants as item
use Rattle.jp_items.specs.declared.rows.LentRow.{LentRow}
use Rattle.jp_items.specs.declared.rows.LentRow.TheVariants as lent

abbrev pub source_rows : TableRows → Source → List Row
source_rows tables (source.Stored table) = rows_of_tables tables table
source_rows tables (source.Made rows) = rows.items

-- the row with a number; where there is no such row, or no number, there is none
abbrev pub part_row : TableRows → RelRows → Option ℕ → Option Row
part_row tables part (Some number) = slice_get (source_rows tables part.source) number
part_row tables part None = None

-- a relation has the row of its first part
abbrev pub parts_env : TableRows → List RelRows → List (Option ℕ) → Env
parts_env tables [] numbers rel = None
parts_env tables (part ∷ parts) [] rel = None
parts_env tables (part ∷ parts) (number ∷ numbers) rel = if rel == part.rel then part_row tables part number else parts_env tables parts numbers rel

abbrev pub single_rows : TableRows → ℕ → RelRows → List Env
single_rows tables rels part = map (only_rows rels) (map (with_row no_outer_rows part.rel) (source_rows tables part.source))

abbrev pub joined_rows : TableRows → ℕ → List RelRows → List (List (Option ℕ)) → List Env
joined_rows tables rels parts numbers = map (only_rows rels) (map (parts_env tables parts) numbers)

unfoldable pub rows_meant : TableRows → ItemRows → List Env
rows_meant tables (item.Single rels part) = single_rows tables rels part
rows_meant tables (item.Joined rels parts numbers) = joined_rows tables rels parts.items numbers.list

-- ---- rows that are lent

abbrev pub lent_values : TableRows → LentRow → Row
lent_values tables (lent.Stored table row) = slice_index_or (rows_of_tables tables table) row []
lent_values tables (lent.Made row) = row.now
