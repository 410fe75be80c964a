-- What the bytes of a data file say of the table: its rows, or the first refusal in the order of checks.
use Rattle.std.specs.Prelude.{◌==◌, if◌then◌else◌, not, ℕ, ◌+◌, Bool, List, [], ◌∷◌, ◌++◌, length, map, filter, position, Option, Some, None, Result, Ok, Err}
use Rattle.std.specs.Cmp.Lexicographic.{pointwise}
use Rattle.std.specs.List.{list_any, slice_index_or}
use Rattle.std.specs.Str.{bytes_eq}
use Rattle.csv.specs.Reading.{default_config, records, strip_bom}
use Rattle.jp_base.specs.Values.{are_equal, is_null}
use Rattle.jp_base.specs.declared.values.Value.{Value}
use Rattle.jp_base.specs.declared.values.Value.TheVariants as value
use Rattle.jp_base.specs.Answers.{OrMemory}
use Rattle.jp_base.specs.declared.values.Ty.{Ty}
use Rattle.jp_base.specs.declared.values.Ty.TheVariants as ty
use Rattle.jp_catalog.specs.declared.types.Key.{Key}
use Rattle.jp_catalog.specs.declared.types.TableDef.{TableDef}
use Rattle.jp_table.specs.Fields.{value_of_field}
use Rattle.jp_table.specs.declared.error.TableError.{TableError}
use Rattle.jp_table.specs.declared.error.TableError.TheVariants as error

-- what was found, or the refusal; records of data and columns are counted from 1
abbrev pub Judged : Type 0 → Type 0
Judged A = Result A TableError

-- what `load` answers is what is defined, or want of memory
abbrev pub Agrees : Judged (List (List Value)) → Judged (List (List Value)) → Type 0
Agrees answer defined = OrMemory error.Memory defined answer

-- one check after the other: the first refusal is the answer
infixl 10 ◌>>=◌
abbrev pub ◌>>=◌ : {A B : Type 0} → Judged A → (A → Judged B) → Judged B
Ok a >>= f = f a
Err e >>= f = Err e

-- ---- fields

abbrev pub bad_field : Ty → ℕ → ℕ → TableError
bad_field ty.Number at column = error.BadNumber at column
bad_field ty.Boolean at column = error.BadBool at column
bad_field ty.Text at column = error.NotUtf8 at column

abbrev pub value_read : TableError → Option Value → Judged Value
value_read refusal (Some found) = Ok found
value_read refusal None = Err refusal

-- the values of the fields that are left, the first of which stands in this column
abbrev pub values_from : List Ty → ℕ → ℕ → List (List ℕ) → Judged (List Value)
values_from [] at column fields = Ok []
values_from (type ∷ types) at column [] = Ok []
values_from (type ∷ types) at column (field ∷ fields) =
    value_read (bad_field type at column) (value_of_field type field)
    >>= (λ found. values_from types at (column + 1) fields
    >>= (λ more. Ok (found ∷ more)))

-- a row has a value for each column
abbrev pub row_read : List Ty → ℕ → List (List ℕ) → Judged (List Value)
row_read types at fields =
    if length fields == length types then values_from types at 1 fields else Err (error.FieldCount at (length fields))

-- ---- keys

abbrev pub key_values : Key → List Value → List Value
key_values key row = map (λ column. slice_index_or row column value.Null) key.columns

abbrev pub has_null : List Value → Key → Bool
has_null row key = list_any is_null (key_values key row)

-- the two rows agree in all columns of the key, and none of them is NULL
abbrev pub repeats : Key → List Value → List Value → Bool
repeats key row earlier = pointwise are_equal (key_values key earlier) (key_values key row)

abbrev pub no_null_read : ℕ → List Key → List Value → Judged (Unit {0})
no_null_read at primary row = if list_any (has_null row) primary then Err (error.NullInKey at) else Ok tt

-- the place of the earlier row that the record repeats, of which there must be none
abbrev pub new_read : ℕ → Option ℕ → Judged (Unit {0})
new_read at (Some place) = Err (error.KeyRepeated (place + 1) at)
new_read at None = Ok tt

-- no key of these repeats one of the earlier rows
abbrev pub keys_new_read : ℕ → List Key → List (List Value) → List Value → Judged (Unit {0})
keys_new_read at [] rows row = Ok tt
keys_new_read at (key ∷ keys) rows row =
    new_read at (position (repeats key row) rows) >>= (λ _. keys_new_read at keys rows row)

abbrev pub is_primary : Key → Bool
is_primary key = key.primary

-- the keys in the order in which they are judged, a primary key first
abbrev pub judged_keys : List Key → List Key
judged_keys keys = filter is_primary keys ++ filter (λ key. not (is_primary key)) keys

abbrev pub keys_read : ℕ → List Key → List (List Value) → List Value → Judged (Unit {0})
keys_read at keys rows row =
    no_null_read at (filter is_primary keys) row >>= (λ _. keys_new_read at (judged_keys keys) rows row)

-- ---- the file

-- the rows found, and those of the records that are left
abbrev pub rows_after : List Ty → List Key → List (List Value) → List (List (List ℕ)) → Judged (List (List Value))
rows_after types keys rows [] = Ok rows
rows_after types keys rows (fields ∷ more) =
    row_read types (length rows + 1) fields
    >>= (λ row. keys_read (length rows + 1) keys rows row
    >>= (λ _. rows_after types keys (rows ++ row ∷ []) more))

abbrev pub column_names : TableDef → List (List ℕ)
column_names def = map (λ column. column.0) def.columns

abbrev pub column_types : TableDef → List Ty
column_types def = map (λ column. column.1) def.columns

-- the first record names the columns, in order
abbrev pub headed : TableDef → List (List (List ℕ)) → Judged (List (List Value))
headed def [] = Err error.Header
headed def (header ∷ more) =
    if pointwise bytes_eq (column_names def) header then rows_after (column_types def) def.keys [] more else Err error.Header

-- the rows of the table, in the order of the file
abbrev pub table_of : TableDef → List ℕ → Judged (List (List Value))
table_of def bytes = headed def (records default_config (strip_bom bytes))
