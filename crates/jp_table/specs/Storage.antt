-- How the columns of a table in memory hold its rows.
use Rattle.std.specs.Prelude.{◌≡◌, ◌≤◌, ◌++◌, ◌∷◌, [], ℕ, ℤ, Bool, true, false, List, length, map, All, IsOkAnd, IsSomeAnd, Option, Some, None, Err}
use Rattle.std.specs.List.{range_with_len, slice_index_or}
use Rattle.jp_base.specs.declared.values.Value.{Value}
use Rattle.jp_base.specs.declared.values.Value.TheVariants as value
use Rattle.jp_base.specs.declared.values.Ty.{Ty}
use Rattle.jp_table.specs.Loading.{Judged}
use Rattle.jp_table.specs.declared.error.TableError.{TableError}

-- a number column holds a number for each row, or nothing for NULL
abbrev pub value_of_number : Option ℤ → Value
value_of_number (Some number) = value.Num number
value_of_number None = value.Null

-- and so does a boolean column
abbrev pub value_of_truth : Option Bool → Value
value_of_truth (Some truth) = value.Bool truth
value_of_truth None = value.Null

-- a column as it is seen: its type, and the value of each row
abbrev pub Stored : Type 0
Stored = Ty × List Value

abbrev pub types_of : List Stored → List Ty
types_of columns = map (λ column. column.0) columns

-- the column with one more value
abbrev pub with_value : Stored → Value → Stored
with_value column value = (column.0, column.1 ++ value ∷ [])

-- whether a column took the value of a field, which there may not be
abbrev pub Took : Option Value → Stored → Stored → Bool → Type 0
Took found before after true = IsSomeAnd found (λ value. after ≡ with_value before value)
Took found before after false = (found ≡ None) × (after ≡ before)

-- the columns, the first of them with one more value each
abbrev pub with_row : List Stored → List Value → List Stored
with_row [] row = []
with_row (column ∷ columns) [] = column ∷ columns
with_row (column ∷ columns) (value ∷ row) = with_value column value ∷ with_row columns row

abbrev pub row_at : List Stored → ℕ → List Value
row_at columns place = map (λ column. slice_index_or column.1 place value.Null) columns

-- the first rows of the columns, so many
abbrev pub rows_of : List Stored → ℕ → List (List Value)
rows_of columns count = map (row_at columns) (range_with_len 0 count)

-- some of the columns may have a value more
abbrev pub HasPart : List Stored → List Stored → Type 0
HasPart before after = (row : List Value) × (after ≡ with_row before row)

-- what the columns have after a record: a row more, or the refusal and some values more
abbrev pub Pushes : Judged (List Value) → List Stored → List Stored → Option TableError → Type 0
Pushes judged before after None = IsOkAnd judged (λ row. after ≡ with_row before row)
Pushes judged before after (Some refusal) = (judged ≡ Err refusal) × HasPart before after

-- each column has so many values
abbrev pub AllHave : ℕ → List Stored → Type 0
AllHave count columns = All (λ column. length column.1 ≡ count) columns

-- each column has so many values or more
abbrev pub HaveRows : ℕ → List Stored → Type 0
HaveRows count columns = All (λ column. count ≤ length column.1) columns

-- the cell of a table's rows in a row and a column, both counted from 0
abbrev pub cell_at : List (List Value) → ℕ → ℕ → Value
cell_at rows row column = slice_index_or (slice_index_or rows row []) column value.Null
