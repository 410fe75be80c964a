-- What is stated of a table that is an item: its rows, and how many distinct values each column has.
use Rattle.std.specs.Prelude.{ℕ, ◌==◌, ◌/◌, Bool, false, max, List, [], ◌∷◌, map, length, if◌then◌else◌}
use Rattle.std.specs.List.{list_any}
use Rattle.jp_catalog.specs.declared.types.Key.{Key}
use Rattle.jp_catalog.specs.declared.types.TableDef.{TableDef}
use Rattle.jp_prepared.specs.Names.{below}

-- the key is this column alone
abbrev pub is_alone : ℕ → List ℕ → Bool
is_alone column (c ∷ []) = c == column
is_alone column _ = false

abbrev pub is_key : ℕ → Key → Bool
is_key column key = is_alone column key.columns

-- a column that is a key by itself has as many distinct values as there are rows, another a tenth
abbrev pub distinct_values : TableDef → ℕ → ℕ
distinct_values def column = if list_any (is_key column) def.keys then def.rows else max 1 (def.rows / 10)

abbrev pub distinct_of : TableDef → List ℕ
distinct_of def = map (distinct_values def) (below (length def.columns))
