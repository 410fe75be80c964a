-- The schema of a catalogue: its tables in order, the types of their columns and the bounds of their numbers.
use Rattle.std.specs.Prelude.{ℕ, ◌^◌, List, map}
use Rattle.jp_base.specs.declared.values.Ty.{Ty}
use Rattle.jp_base.specs.declared.values.Ty.TheVariants as ty
use Rattle.jp_query.specs.Scopes.{Column, Schema}
use Rattle.jp_resolution.specs.Layers.{Catalog, TableDef}

-- a number of a table has 64 bits
abbrev pub bound_of : Ty → ℕ
bound_of ty.Number = 2 ^ 63
bound_of _ = 0

abbrev pub schema_column : List ℕ × Ty → Column
schema_column column = record { type = column.1; bound = bound_of column.1 }

abbrev pub schema_columns : List (List ℕ × Ty) → List Column
schema_columns columns = map schema_column columns

abbrev pub table_columns : List ℕ × TableDef → List Column
table_columns table = schema_columns table.1.columns

abbrev pub schema_of : Catalog → Schema
schema_of catalog = map table_columns catalog.tables
