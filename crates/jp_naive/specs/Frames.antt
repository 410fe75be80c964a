-- What tuples mean: leaves and row numbers, with the rows of the tables, are an environment.
use Rattle.std.specs.Prelude.{ℕ, List, [], ◌∷◌, ◌==◌, map, Option, Some, None, bit_or, if◌then◌else◌}
use Rattle.std.specs.List.{slice_index_or}
use Rattle.jp_base.specs.Cells.{value_of_cell}
use Rattle.jp_base.specs.declared.cells.Cell.{Cell}
use Rattle.jp_base.specs.declared.values.Value.{Value}
use Rattle.jp_query.specs.Meaning.{Row, Env, no_outer_rows}
use Rattle.jp_query.specs.Refs.{only}
use Rattle.jp_query.specs.Tables.{rows_of_tables, TableRows}
use Rattle.jp_naive.specs.declared.frames.Leaf.{Leaf}
use Rattle.jp_naive.specs.declared.frames.Source.{Source}
use Rattle.jp_naive.specs.declared.frames.Source.TheVariants as source
use Rattle.jp_naive.specs.declared.frames.Frame.{Frame}
use Rattle.jp_naive.specs.declared.frames.OuterRow.{OuterRow}
use Rattle.jp_naive.specs.declared.frames.Kept.{Kept}
use Rattle.jp_naive.specs.declared.frames.Kept.TheVariants as kept
use Rattle.jp_naive.specs.declared.frames.Place.{Place}
use Rattle.jp_naive.specs.declared.frames.LentRow.{LentRow}
use Rattle.jp_naive.specs.declared.frames.LentRow.TheVariants as lent
use Rattle.jp_naive.specs.declared.frames.Seen.{Seen}
use Rattle.jp_naive.specs.declared.frames.Seen.TheVariants as seen

abbrev pub leaf_rows : TableRows → Source → List Row
leaf_rows tables (source.Table table) = rows_of_tables tables table
leaf_rows tables (source.Made rows) = rows.items

abbrev pub row_at : TableRows → Leaf → Option ℕ → Option Row
row_at tables leaf None = None
row_at tables leaf (Some number) = Some (slice_index_or (leaf_rows tables leaf.source) number [])

-- a relation has the row of its leaf, the first of its number; one that has no leaf has its row of the outer environment
abbrev pub env_over : TableRows → List Leaf → List (Option ℕ) → Env → Env
env_over tables [] numbers outer rel = outer rel
env_over tables (leaf ∷ leaves) [] outer rel = outer rel
env_over tables (leaf ∷ leaves) (number ∷ numbers) outer rel = if rel == leaf.rel then row_at tables leaf number else env_over tables leaves numbers outer rel

abbrev pub envs_over : TableRows → List Leaf → Env → List (List (Option ℕ)) → List Env
envs_over tables leaves outer list = map (λ numbers. env_over tables leaves numbers outer) list

abbrev pub frame_env : TableRows → Frame → Env → Env
frame_env tables frame outer = env_over tables frame.leaves.now frame.numbers.now outer

abbrev pub kept_row : TableRows → Option Kept → Option Row
kept_row tables None = None
kept_row tables (Some (kept.Stored table row)) = Some (slice_index_or (rows_of_tables tables table) row [])
kept_row tables (Some (kept.Made row)) = Some row

-- a relation has its first row of the list, or that of a further environment
abbrev pub env_after : TableRows → List OuterRow → Env → Env
env_after tables [] further rel = further rel
env_after tables (outer ∷ more) further rel = if rel == outer.rel then kept_row tables outer.row else env_after tables more further rel

-- the environment of the rows of the outer levels
abbrev pub env_of : TableRows → List OuterRow → Env
env_of tables outer = env_after tables outer no_outer_rows

abbrev pub place_env : TableRows → Place → Env
place_env tables place = frame_env tables place.first (frame_env tables place.second (env_of tables place.outer.now))

-- the relations of the leaves
abbrev pub rels_of : List Leaf → ℕ
rels_of [] = 0
rels_of (leaf ∷ leaves) = bit_or (only leaf.rel) (rels_of leaves)

-- ---- rows that are lent

abbrev pub lent_values : TableRows → LentRow → Row
lent_values tables (lent.Stored table row) = slice_index_or (rows_of_tables tables table) row []
lent_values tables (lent.Made row) = row.now

-- the row of a relation that is seen in a frame, or the outer environment's where it isn't
abbrev pub seen_or : TableRows → Seen → Option Row → Option Row
seen_or tables seen.Elsewhere outer = outer
seen_or tables seen.Absent outer = None
seen_or tables (seen.Here row) outer = Some (lent_values tables row)

-- a cell, or another value where there is none
abbrev pub cell_or : Option Cell → Value → Value
cell_or (Some cell) other = value_of_cell cell
cell_or None other = other
