-- Tables: their rows, which columns they fit, and which of them are there.
use Rattle.std.specs.Prelude.{ℕ, ◌≡◌, ◌≤◌, ⊤, nat_abs, List, [], ◌∷◌, All, Option, Some, None, slice_get}
use Rattle.jp_base.specs.declared.values.Value.{Value}
use Rattle.jp_base.specs.declared.values.Value.TheVariants as value
use Rattle.jp_base.specs.Values.{HasType}
use Rattle.jp_query.specs.Layers.{Query}
use Rattle.jp_query.specs.Conditions.{IsTyped, IsBounded}
use Rattle.jp_query.specs.Meaning.{Row}
use Rattle.jp_query.specs.Parts.{tables_in}
use Rattle.jp_query.specs.Scopes.{Column, Schema}

-- the rows of each table of the catalogue, in its order; None where one isn't loaded
abbrev pub TableRows : Type 0
TableRows = List (Option (List Row))

-- the rows of a table by its place; none where it isn't there
abbrev pub rows_in : Option (Option (List Row)) → List Row
rows_in (Some (Some rows)) = rows
rows_in _ = []

abbrev pub rows_of_tables : TableRows → ℕ → List Row
rows_of_tables tables table = rows_in (slice_get tables table)

-- ---- tables belong to a schema

abbrev pub IsWithin : ℕ → Value → Type 0
IsWithin bound (value.Num n) = nat_abs n ≤ bound
IsWithin bound _ = ⊤

-- the value is NULL or of the column's type, and a number lies within its bound
pub record IsCellOf (column : Column) (cell : Value) : Type 0 where
  pub typed : HasType column.type cell
  pub within : IsWithin column.bound cell

-- one value for each column
abbrev pub IsRowOf : List Column → Row → Type 0
IsRowOf [] [] = ⊤
IsRowOf (column ∷ columns) (cell ∷ row) = IsCellOf column cell × IsRowOf columns row
IsRowOf _ _ = ⊥

-- a table that isn't there has no rows to judge
abbrev pub IsTableOf : List Column → Option (List Row) → Type 0
IsTableOf columns (Some rows) = All (IsRowOf columns) rows
IsTableOf columns None = ⊤

-- as many places as the schema has
abbrev pub Belong : Schema → TableRows → Type 0
Belong [] [] = ⊤
Belong (columns ∷ schema) (table ∷ tables) = IsTableOf columns table × Belong schema tables
Belong _ _ = ⊥

-- typed and bounded over some schema to which the tables belong
pub record IsTypedOver (tables : TableRows) (query : Query) : Type 0 where
  pub schema : Schema
  pub belong : Belong schema tables
  pub typed : IsTyped schema [] query
  pub bounded : IsBounded schema [] query

-- ---- tables are there

-- the place has a table that is loaded
abbrev pub IsLoaded : TableRows → ℕ → Type 0
IsLoaded tables table = (rows : List Row) × (slice_get tables table ≡ Some (Some rows))

-- each table that the query names is there
abbrev pub AllLoaded : TableRows → Query → Type 0
AllLoaded tables query = All (IsLoaded tables) (tables_in query)
