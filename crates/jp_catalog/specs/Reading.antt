-- What a text says: a catalogue, or the first refusal in the order of checks.
use Rattle.std.specs.Prelude.{ℕ, ◌+◌, ◌==◌, ℤ, pos, negsuc, List, [], ◌∷◌, ◌++◌, length, Bool, true, false, ◌&&◌, if◌then◌else◌, nat_eq, nat_le, Option, Some, None, Result, Ok, Err, codes}
use Rattle.std.specs.Borrow.{Bor}
use Rattle.std.specs.List.{list_any}
use Rattle.std.specs.Str.{bytes_eq, is_utf8}
use Rattle.toml.specs.Data.{Data, integer, Items, no_items, item, Members, no_members, member, get_member, as_str, as_integer, as_array, as_table}
use Rattle.toml.specs.Parse.{parse_document}
use Rattle.jp_base.specs.Answers.{OrMemory}
use Rattle.jp_base.specs.declared.values.Ty.{Ty}
use Rattle.jp_base.specs.declared.values.Ty.TheVariants.{Number, Boolean, Text}
use Rattle.jp_catalog.specs.Levels.{has_key}
use Rattle.jp_catalog.specs.Names.{place_of, value_of}
use Rattle.jp_catalog.specs.Paths.{table_path, field_path, column_path, column_field_path, unique_path}
use Rattle.jp_catalog.specs.declared.error.CatalogError.{CatalogError}
use Rattle.jp_catalog.specs.declared.error.CatalogError.TheVariants as error
use Rattle.jp_catalog.specs.declared.level.Level.{Level}
use Rattle.jp_catalog.specs.declared.level.Level.TheVariants as level
use Rattle.jp_catalog.specs.declared.types.Catalog.{Catalog}
use Rattle.jp_catalog.specs.declared.types.TableDef.{TableDef}
use Rattle.jp_catalog.specs.declared.types.Key.{Key}

-- what was read, or the refusal
abbrev pub Read : Type 0 → Type 0
Read A = Result A CatalogError

-- one check after the other: the first refusal is the answer
infixl 10 ◌>>=◌
abbrev pub ◌>>=◌ : {A B : Type 0} → Read A → (A → Read B) → Read B
Ok a >>= f = f a
Err e >>= f = Err e

-- what a reference points to
abbrev pub pointed_to : {A : Type 0} → Read (Bor A) → Read A
pointed_to (Ok lent) = Ok lent.now
pointed_to (Err e) = Err e

abbrev pub NamedColumn : Type 0
NamedColumn = List ℕ × Ty

abbrev pub NamedTable : Type 0
NamedTable = List ℕ × TableDef

-- ---- checks of any table of the text

-- the first key that the format doesn't have there
abbrev pub unknown_key : Level → Members → Option (List ℕ)
unknown_key at no_members = None
unknown_key at (member key value more) = if has_key at key then unknown_key at more else Some key

abbrev pub keys_known : (List ℕ → List ℕ) → Option (List ℕ) → Read (Unit {0})
keys_known path None = Ok tt
keys_known path (Some key) = Err (error.UnknownKey (path key))

-- a value of the kind must stand at this path
abbrev pub of_kind : {A : Type 0} → List ℕ → Option A → Read A
of_kind path None = Err (error.BadType path)
of_kind path (Some value) = Ok value

abbrev pub text_read : List ℕ → Option Data → Read (List ℕ)
text_read path None = Err (error.Missing path)
text_read path (Some value) = of_kind path (as_str value)

-- names of tables and columns have 1 to 63 bytes
abbrev pub name_fits : List ℕ → List ℕ → Read (Unit {0})
name_fits path name = if nat_le 1 (length name) && nat_le (length name) 63 then Ok tt else Err (error.BadName path)

-- ---- columns

abbrev pub type_read : List ℕ → List ℕ → Read Ty
type_read path word =
    if bytes_eq word (codes "number") then Ok Number
    else (if bytes_eq word (codes "boolean") then Ok Boolean else (if bytes_eq word (codes "text") then Ok Text else Err (error.BadType path)))

-- what an earlier column with the name has, of which there must be none
abbrev pub name_new : List ℕ → Option Ty → Read (Unit {0})
name_new path None = Ok tt
name_new path (Some _) = Err (error.DuplicateColumn path)

-- an entry of `columns`, after the columns found
abbrev pub column_read : List ℕ → List NamedColumn → Data → Read NamedColumn
column_read table found entry = do
  fields ← of_kind (column_path table (length found)) (as_table entry)
  _ ← keys_known (column_field_path table (length found)) (unknown_key level.Column fields)
  text ← text_read (column_field_path table (length found) (codes "name")) (get_member (codes "name") fields)
  _ ← name_fits (column_field_path table (length found) (codes "name")) text
  _ ← name_new (column_field_path table (length found) (codes "name")) (value_of text found)
  word ← text_read (column_field_path table (length found) (codes "type")) (get_member (codes "type") fields)
  ty ← type_read (column_field_path table (length found) (codes "type")) word
  Ok (text, ty)

-- the columns found, and those of the entries that are left
abbrev pub columns_after : List ℕ → List NamedColumn → Items → Read (List NamedColumn)
columns_after table found no_items = Ok found
columns_after table found (item entry more) = column_read table found entry >>= (λ column. columns_after table (found ++ column ∷ []) more)

abbrev pub count_of : Items → ℕ
count_of no_items = 0
count_of (item entry more) = count_of more + 1

-- from 1 to 64 columns
abbrev pub entries_read : List ℕ → Items → Read (List NamedColumn)
entries_read table entries =
    if count_of entries == 0 then Err (error.BadType (field_path table (codes "columns")))
    else (if nat_le (count_of entries) 64 then columns_after table [] entries else Err (error.TooManyColumns (field_path table (codes "columns"))))

abbrev pub columns_read : List ℕ → Option Data → Read (List NamedColumn)
columns_read table None = Err (error.Missing (field_path table (codes "columns")))
columns_read table (Some value) = of_kind (field_path table (codes "columns")) (as_array value) >>= entries_read table

-- ---- keys

-- a column of a key, by its place in the table: it is there, and no column found before
abbrev pub place_read : List ℕ → List ℕ → Option ℕ → Read ℕ
place_read path found None = Err (error.KeyColumn path)
place_read path found (Some place) = if list_any (λ column. nat_eq column place) found then Err (error.KeyColumn path) else Ok place

abbrev pub key_column_read : List ℕ → List NamedColumn → List ℕ → Data → Read ℕ
key_column_read path columns found value = of_kind path (as_str value) >>= (λ name. place_read path found (place_of name columns))

-- the places found, and those of the names that are left
abbrev pub places_after : List ℕ → List NamedColumn → List ℕ → Items → Read (List ℕ)
places_after path columns found no_items = Ok found
places_after path columns found (item name more) = key_column_read path columns found name >>= (λ place. places_after path columns (found ++ place ∷ []) more)

-- a key names at least one column
abbrev pub names_read : List ℕ → List NamedColumn → Bool → Items → Read Key
names_read path columns primary names =
    if count_of names == 0 then Err (error.KeyColumn path)
    else (places_after path columns [] names >>= (λ places. Ok (record { columns = places; primary = primary })))

abbrev pub key_read : List ℕ → List NamedColumn → Bool → Data → Read Key
key_read path columns primary value = of_kind path (as_array value) >>= names_read path columns primary

-- `primary_key` may be missing
abbrev pub primary_read : List ℕ → List NamedColumn → Option Data → Read (List Key)
primary_read table columns None = Ok []
primary_read table columns (Some names) = key_read (field_path table (codes "primary_key")) columns true names >>= (λ key. Ok (key ∷ []))

-- the keys of the entries of `unique` that are left, the first of which has the number i
abbrev pub unique_from : List ℕ → List NamedColumn → ℕ → Items → Read (List Key)
unique_from table columns i no_items = Ok []
unique_from table columns i (item names more) =
    key_read (unique_path table i) columns false names >>= (λ key. unique_from table columns (i + 1) more >>= (λ keys. Ok (key ∷ keys)))

-- `unique` may be missing
abbrev pub unique_read : List ℕ → List NamedColumn → Option Data → Read (List Key)
unique_read table columns None = Ok []
unique_read table columns (Some value) = of_kind (field_path table (codes "unique")) (as_array value) >>= unique_from table columns 0

-- the primary key stands first
abbrev pub keys_read : List ℕ → List NamedColumn → Members → Read (List Key)
keys_read table columns fields = do
  primary ← primary_read table columns (get_member (codes "primary_key") fields)
  unique ← unique_read table columns (get_member (codes "unique") fields)
  Ok (primary ++ unique)

-- ---- tables

-- stated rows lie from 1 to 4294967295
abbrev pub rows_fit : List ℕ → ℤ → Read ℕ
rows_fit path (pos rows) = if nat_le 1 rows && nat_le rows 4294967295 then Ok rows else Err (error.RowsOutOfRange path)
rows_fit path (negsuc rows) = Err (error.RowsOutOfRange path)

abbrev pub rows_read : List ℕ → Option Data → Read ℕ
rows_read path None = Err (error.Missing path)
rows_read path (Some value) = of_kind path (as_integer value) >>= rows_fit path

abbrev pub table_read : List ℕ → Data → Read TableDef
table_read table value = do
  _ ← name_fits (table_path table) table
  fields ← of_kind (table_path table) (as_table value)
  _ ← keys_known (field_path table) (unknown_key level.Table fields)
  file ← text_read (field_path table (codes "file")) (get_member (codes "file") fields)
  rows ← rows_read (field_path table (codes "rows")) (get_member (codes "rows") fields)
  columns ← columns_read table (get_member (codes "columns") fields)
  keys ← keys_read table columns fields
  Ok (record { file = file; rows = rows; columns = columns; keys = keys })

-- the tables ascend by name, as the members of a TOML table do
abbrev pub tables_read : Members → Read (List NamedTable)
tables_read no_members = Ok []
tables_read (member table value more) = table_read table value >>= (λ def. tables_read more >>= (λ tables. Ok ((table, def) ∷ tables)))

-- ---- the whole text

abbrev pub is_version : Option Data → Bool
is_version (Some (integer (pos number))) = number == 1
is_version _ = false

abbrev pub version_read : Option Data → Read (Unit {0})
version_read value = if is_version value then Ok tt else Err error.Version

abbrev pub top_tables_read : Option Data → Read (List NamedTable)
top_tables_read None = Err (error.Missing (codes "tables"))
top_tables_read (Some value) = of_kind (codes "tables") (as_table value) >>= tables_read

abbrev pub document_read : Option Members → Read Catalog
document_read None = Err error.NotToml
document_read (Some top) = do
  _ ← version_read (get_member (codes "version") top)
  _ ← keys_known (λ key. key) (unknown_key level.Top top)
  tables ← top_tables_read (get_member (codes "tables") top)
  Ok (record { tables = tables })

-- the catalogue of the bytes
abbrev pub catalogue_of : List ℕ → Read Catalog
catalogue_of bytes = if is_utf8 bytes then document_read (parse_document bytes) else Err error.NotToml

-- the answer is what the definition says, or want of memory
abbrev pub Agrees : {A : Type 0} → Read A → Read A → Type 0
Agrees answer defined = OrMemory error.Memory defined answer
