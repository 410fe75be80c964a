-- The judging of a file in two passes: first the rows, as far as the records give them, and then the keys of these rows.
use Rattle.std.specs.Prelude.{◌<◌, ◌+◌, ◌++◌, ◌∷◌, [], if◌then◌else◌, not, nat_lt, ℕ, Bool, true, false, List, length, filter, All, Option, Some, None, Ok, Err}
use Rattle.jp_base.specs.declared.values.Value.{Value}
use Rattle.jp_base.specs.declared.values.Ty.{Ty}
use Rattle.jp_catalog.specs.declared.types.Key.{Key}
use Rattle.jp_table.specs.Loading.{Judged, is_primary, keys_new_read, keys_read, no_null_read, row_read}
use Rattle.jp_table.specs.declared.error.TableError.{TableError}
use Rattle.jp_table.specs.declared.error.TableError.TheVariants as error

-- ---- rows

-- the rows before the first record that gives none, and why that record gives none
abbrev pub Pass : Type 0
Pass = List (List Value) × Option TableError

abbrev pub row_then : Judged (List Value) → Pass → Pass
row_then (Ok row) later = (row ∷ later.0, later.1)
row_then (Err refusal) later = ([], Some refusal)

-- of the records that follow so many
abbrev pub rows_read : List Ty → ℕ → List (List (List ℕ)) → Pass
rows_read types count [] = ([], None)
rows_read types count (fields ∷ more) = row_then (row_read types (count + 1) fields) (rows_read types (count + 1) more)

abbrev pub stopped : Option TableError → List (List Value) → Judged (List (List Value))
stopped (Some refusal) rows = Err refusal
stopped None rows = Ok rows

-- a refusal by the keys of the rows before comes first
abbrev pub after_keys : Option TableError → Pass → Judged (List (List Value))
after_keys (Some refusal) pass = Err refusal
after_keys None pass = stopped pass.1 pass.0

-- ---- keys

-- a check of a row, given the rows before it
abbrev pub Check : Type 0
Check = List (List Value) → List Value → Judged (Unit {0})

abbrev pub refusal_then : Judged (Unit {0}) → Option TableError → Option TableError
refusal_then (Ok passed) later = later
refusal_then (Err refusal) later = Some refusal

-- the first refusal of a check, in the rows that follow the earlier ones
abbrev pub first_refusal : Check → List (List Value) → List (List Value) → Option TableError
first_refusal check earlier [] = None
first_refusal check earlier (row ∷ rows) = refusal_then (check earlier row) (first_refusal check (earlier ++ row ∷ []) rows)

abbrev pub keys_hold : List Key → Check
keys_hold keys earlier row = keys_read (length earlier + 1) keys earlier row

abbrev pub no_null : List Key → Check
no_null keys earlier row = no_null_read (length earlier + 1) (filter is_primary keys) row

abbrev pub no_repeat : List Key → Check
no_repeat keys earlier row = keys_new_read (length earlier + 1) keys earlier row

-- the keys of a table that are primary, and those that aren't
abbrev pub is_kind : Bool → Key → Bool
is_kind true = is_primary
is_kind false = λ key. not (is_primary key)

-- the record in which a refusal comes
abbrev pub record_of : TableError → ℕ
record_of error.Header = 0
record_of (error.FieldCount record_number _) = record_number
record_of (error.BadNumber record_number _) = record_number
record_of (error.BadBool record_number _) = record_number
record_of (error.NotUtf8 record_number _) = record_number
record_of (error.NullInKey record_number) = record_number
record_of (error.KeyRepeated _ record_number) = record_number
record_of error.Memory = 0

-- the refusal that comes in the earlier record, of two in one record the first
abbrev pub sooner : Option TableError → Option TableError → Option TableError
sooner None second = second
sooner (Some first) None = Some first
sooner (Some first) (Some second) = if nat_lt (record_of second) (record_of first) then Some second else Some first

-- each row has the columns of the key
abbrev pub HasColumns : List (List Value) → Key → Type 0
HasColumns rows key = All (λ row. All (λ column. column < length row) key.columns) rows
