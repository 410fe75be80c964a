-- How the places of a catalogue are named.
use Rattle.std.specs.Prelude.{ℕ, List, ◌++◌, codes, decimal}
use Rattle.jp_catalog.specs.declared.place.Place.{Place}
use Rattle.jp_catalog.specs.declared.place.Place.TheVariants as place

abbrev pub table_path : List ℕ → List ℕ
table_path table = codes "tables." ++ table

-- a key of a table
abbrev pub field_path : List ℕ → List ℕ → List ℕ
field_path table key = codes "tables." ++ table ++ codes "." ++ key

-- an entry of a table's `columns`, counted from 0
abbrev pub column_path : List ℕ → ℕ → List ℕ
column_path table i = codes "tables." ++ table ++ codes ".columns[" ++ decimal i ++ codes "]"

-- a key of such an entry
abbrev pub column_field_path : List ℕ → ℕ → List ℕ → List ℕ
column_field_path table i key = codes "tables." ++ table ++ codes ".columns[" ++ decimal i ++ codes "]." ++ key

-- an entry of a table's `unique`, counted from 0
abbrev pub unique_path : List ℕ → ℕ → List ℕ
unique_path table i = codes "tables." ++ table ++ codes ".unique[" ++ decimal i ++ codes "]"

abbrev pub path_of : Place → List ℕ
path_of (place.Top key) = key.now
path_of (place.Table table) = table_path table.now
path_of (place.Field table key) = field_path table.now key.now
path_of (place.Column table i) = column_path table.now i
path_of (place.ColumnField table i key) = column_field_path table.now i key.now
path_of (place.Unique table i) = unique_path table.now i
