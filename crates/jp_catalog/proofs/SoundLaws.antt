-- What was read is sound.
use Rattle.std.proofs.Common.{◌≡◌, ℕ, ◌+◌, ◌<◌, ◌≤◌, ◌==◌, Bool, true, false, ◌&&◌, nat_eq, nat_le, List, [], ◌∷◌, ◌++◌, length, Option, Some, None, Ok, Err, pos, negsuc, ℤ, codes, refl, ap, subst, arith, length-append, inl, inr}
use Rattle.std.proofs.lemmas.Bool.{cases_Bool, or_parts}
use Rattle.std.proofs.lemmas.Bool.Decides.{nat_tests}
use Rattle.std.proofs.lemmas.Cmp.{nat_list_eq_equiv}
use Rattle.std.proofs.lemmas.List.Elements.{All-nil, All-cons, All-push, All-append}
use Rattle.std.proofs.lemmas.List.Quantifiers.{position-Some}
use Rattle.std.proofs.lemmas.Map.Entries.{length-keys_of}
use Rattle.std.specs.List.{All, AllByRecursion, IsDistinct, list_any}
use Rattle.std.specs.Map.{keys_of}
use Rattle.std.specs.Str.{bytes_eq}
use Rattle.toml.specs.Data.{Data, Items, no_items, item, Members, no_members, member, get_member, as_str, as_integer, as_array, as_table}
use Rattle.jp_base.specs.declared.values.Ty.{Ty}
use Rattle.jp_catalog.specs.Names.{place_of, value_of, HasDistinctNames}
use Rattle.jp_catalog.specs.Paths.{field_path, column_path, column_field_path, table_path, unique_path}
use Rattle.jp_catalog.specs.Reading.{Read, ◌>>=◌, NamedColumn, NamedTable, of_kind, text_read, name_fits, name_new, keys_known, unknown_key, type_read, column_read, columns_after, count_of, entries_read, columns_read, place_read, key_column_read, places_after, names_read, key_read, primary_read, unique_from, unique_read, keys_read, rows_fit, rows_read, table_read, tables_read, version_read, top_tables_read, document_read}
use Rattle.jp_catalog.specs.Sound.{IsSoundKey, IsSoundTable, IsOfSize}
use Rattle.jp_catalog.specs.declared.level.Level.TheVariants as level
use Rattle.jp_catalog.specs.declared.types.Catalog.{Catalog}
use Rattle.jp_catalog.specs.declared.types.Key.{Key}
use Rattle.jp_catalog.specs.declared.types.TableDef.{TableDef}

-- a check that came after another one: both passed
bound : {A B : Type 0} (r : Read A) (f : A → Read B) (b : B) → (r >>= f) ≡ Ok b → (a : A) × (r ≡ Ok a) × (f a ≡ Ok b)
bound (Ok a) f b h = (a, refl, h)
bound (Err e) f b h = cc

-- ---- distinct names and places

apart_push : {K : Type 0} (eq : K → K → Bool) (x : K) (ks : List K) (k : K) → AllByRecursion (λ y. eq x y ≡ false) ks → eq x k ≡ false → AllByRecursion (λ y. eq x y ≡ false) (ks ++ k ∷ [])
apart_push eq x [] k h e = (e, tt)
apart_push eq x (y ∷ ks) k h e = (h.0, apart_push eq x ks k h.1 e)

distinct_push : {K : Type 0} (eq : K → K → Bool) (ks : List K) (k : K) → IsDistinct eq ks → list_any (λ x. eq x k) ks ≡ false → IsDistinct eq (ks ++ k ∷ [])
unfolding IsDistinct
distinct_push eq [] k d none = (tt, tt)
distinct_push eq (x ∷ ks) k d none =
    let (here, more) = or_parts (eq x k) (list_any (λ y. eq y k) ks) none in
    (apart_push eq x ks k d.0 here, distinct_push eq ks k d.1 more)

not_found : {X : Type 0} (name : List ℕ) (found : List (List ℕ × X)) → value_of name found ≡ None → list_any (λ x. bytes_eq x name) (keys_of found) ≡ false
not_found name [] none = refl
not_found name (x ∷ found) none =
    elim (cases_Bool (bytes_eq name x.0)) [
      | inl same ↦ let h = rw same at none in cc
      | inr other ↦ let h = rw other at none in rw (nat_list_eq_equiv.symm x.0 name, other) (not_found name found h)
    ]

keys_of-push : {X : Type 0} (found : List (List ℕ × X)) (x : List ℕ × X) → keys_of (found ++ x ∷ []) ≡ keys_of found ++ x.0 ∷ []
keys_of-push [] x = refl
keys_of-push (y ∷ found) x = ap (λ ks. y.0 ∷ ks) (keys_of-push found x)

-- ---- columns

new_none : (path : List ℕ) (other : Option Ty) (done : _) → name_new path other ≡ Ok done → other ≡ None
new_none path None done h = refl
new_none path (Some ty) done h = cc

-- the checks of an entry, from each of them on
module _ (table : List ℕ) (found : List NamedColumn) where
  abbrev place : List ℕ → List ℕ
  place = column_field_path table (length found)

  abbrev from_word : List ℕ → List ℕ → Read NamedColumn
  from_word text word = type_read (place (codes "type")) word >>= (λ ty. Ok (text, ty))

  abbrev from_type : Members → List ℕ → Read NamedColumn
  from_type fields text = text_read (place (codes "type")) (get_member (codes "type") fields) >>= from_word text

  abbrev from_new : Members → List ℕ → Read NamedColumn
  from_new fields text = name_new (place (codes "name")) (value_of text found) >>= (λ _. from_type fields text)

  abbrev from_fits : Members → List ℕ → Read NamedColumn
  from_fits fields text = name_fits (place (codes "name")) text >>= (λ _. from_new fields text)

  abbrev from_name : Members → Read NamedColumn
  from_name fields = text_read (place (codes "name")) (get_member (codes "name") fields) >>= from_fits fields

  abbrev from_fields : Members → Read NamedColumn
  from_fields fields = keys_known place (unknown_key level.Column fields) >>= (λ _. from_name fields)

  column_new : (entry : Data) (column : NamedColumn) → column_read table found entry ≡ Ok column → value_of column.0 found ≡ None
  column_new entry column h =
      let (fields, _, h1) = bound (of_kind (column_path table (length found)) (as_table entry)) from_fields column h in
      let (_, _, h2) = bound (keys_known place (unknown_key level.Column fields)) (λ _. from_name fields) column h1 in
      let (text, _, h3) = bound (text_read (place (codes "name")) (get_member (codes "name") fields)) (from_fits fields) column h2 in
      let (_, _, h4) = bound (name_fits (place (codes "name")) text) (λ _. from_new fields text) column h3 in
      let (done, new, h5) = bound (name_new (place (codes "name")) (value_of text found)) (λ _. from_type fields text) column h4 in
      let (word, _, h6) = bound (text_read (place (codes "type")) (get_member (codes "type") fields)) (from_word text) column h5 in
      let (ty, _, h7) = bound (type_read (place (codes "type")) word) (λ ty. Ok (text, ty)) column h6 in
      let made : NamedColumn = (text, ty) in
      let same : made ≡ column = cc in
      subst (λ (c : NamedColumn). value_of c.0 found ≡ None) {x = made} same (new_none (place (codes "name")) (value_of text found) done new)

columns_sound : (table : List ℕ) (found : List NamedColumn) (entries : Items) (columns : List NamedColumn) → HasDistinctNames found → columns_after table found entries ≡ Ok columns
    → HasDistinctNames columns × (length columns ≡ length found + count_of entries)
columns_sound table found no_items columns distinct h =
    let same : found ≡ columns = cc in
    (subst HasDistinctNames same distinct, omega (arith, ap length same))
columns_sound table found (item entry more) columns distinct h =
    let (column, read, rest) = bound (column_read table found entry) (λ c. columns_after table (found ++ c ∷ []) more) columns h in
    let new = not_found column.0 found (column_new table found entry column read) in
    let pushed : HasDistinctNames (found ++ column ∷ []) = rw (keys_of-push found column) (distinct_push bytes_eq (keys_of found) column.0 distinct new) in
    let r = columns_sound table (found ++ column ∷ []) more columns pushed rest in
    (r.0, omega (arith, r.1, length-append found (column ∷ [])))

abbrev AreSoundColumns : List NamedColumn → Type 0
AreSoundColumns columns = HasDistinctNames columns × (1 ≤ length columns) × (length columns ≤ 64)

entries_sound : (table : List ℕ) (entries : Items) (columns : List NamedColumn) → entries_read table entries ≡ Ok columns → AreSoundColumns columns
unfolding IsDistinct
entries_sound table entries columns h =
    elim (cases_Bool (count_of entries == 0)) [
      | inl none ↦ let k = rw none at h in cc
      | inr some ↦
          let k = rw some at h in
          elim (cases_Bool (nat_le (count_of entries) 64)) [
            | inl few ↦
                let k2 = rw few at k in
                let r = columns_sound table [] entries columns tt k2 in
                let least : 1 ≤ count_of entries = grind (arith, nat_tests) in
                let most : count_of entries ≤ 64 = grind (arith, nat_tests) in
                (r.0, omega (arith, r.1), omega (arith, r.1))
            | inr many ↦ let k2 = rw many at k in cc
          ]
    ]

columns_read_sound : (table : List ℕ) (value : Option Data) (columns : List NamedColumn) → columns_read table value ≡ Ok columns → AreSoundColumns columns
columns_read_sound table None columns h = cc
columns_read_sound table (Some value) columns h =
    let (entries, _, k) = bound (of_kind (field_path table (codes "columns")) (as_array value)) (entries_read table) columns h in entries_sound table entries columns k

-- ---- keys

place_sound : (path found : List ℕ) (place : Option ℕ) (column : ℕ) → place_read path found place ≡ Ok column → (place ≡ Some column) × (list_any (λ x. nat_eq x column) found ≡ false)
place_sound path found None column h = cc
place_sound path found (Some place) column h =
    elim (cases_Bool (list_any (λ x. nat_eq x place) found)) [
      | inl again ↦ let k = rw again at h in cc
      | inr new ↦ let k = rw new at h in let same : place ≡ column = cc in (ap Some same, subst (λ c. list_any (λ x. nat_eq x c) found ≡ false) same new)
    ]

key_column_sound : (path : List ℕ) (columns : List NamedColumn) (found : List ℕ) (value : Data) (column : ℕ) → key_column_read path columns found value ≡ Ok column
    → (column < length columns) × (list_any (λ x. nat_eq x column) found ≡ false)
key_column_sound path columns found value column h =
    let (name, _, k) = bound (of_kind path (as_str value)) (λ n. place_read path found (place_of n columns)) column h in
    let (at, new) = place_sound path found (place_of name columns) column k in
    let within = (position-Some (bytes_eq name) (keys_of columns) column [] at).0 in
    (omega (arith, within, length-keys_of columns), new)

places_sound : (path : List ℕ) (columns : List NamedColumn) (found : List ℕ) (names : Items) (places : List ℕ) → IsDistinct nat_eq found → All (λ c. c < length columns) found
    → places_after path columns found names ≡ Ok places → IsDistinct nat_eq places × All (λ c. c < length columns) places × (length places ≡ length found + count_of names)
places_sound path columns found no_items places distinct there h =
    let same : found ≡ places = cc in
    (subst (IsDistinct nat_eq) same distinct, subst (All (λ c. c < length columns)) same there, omega (arith, ap length same))
places_sound path columns found (item name more) places distinct there h =
    let (column, read, rest) = bound (key_column_read path columns found name) (λ c. places_after path columns (found ++ c ∷ []) more) places h in
    let (within, new) = key_column_sound path columns found name column read in
    let r = places_sound path columns (found ++ column ∷ []) more places (distinct_push nat_eq found column distinct new) (All-push (λ c. c < length columns) found column there within) rest in
    (r.0, r.1, omega (arith, r.2, length-append found (column ∷ [])))

names_sound : (path : List ℕ) (columns : List NamedColumn) (primary : Bool) (names : Items) (key : Key) → names_read path columns primary names ≡ Ok key → IsSoundKey (length columns) key
unfolding IsDistinct
names_sound path columns primary names key h =
    elim (cases_Bool (count_of names == 0)) [
      | inl none ↦ let k = rw none at h in cc
      | inr some ↦
          let k = rw some at h in
          let (places, read, last) = bound (places_after path columns [] names) (λ ps. Ok (record { columns = ps; primary = primary })) key k in
          let r = places_sound path columns [] names places tt (All-nil (λ c. c < length columns)) read in
          let least : 1 ≤ count_of names = grind (arith, nat_tests) in
          let made : Key = record { columns = places; primary = primary } in
          let same : made ≡ key = cc in
          subst (IsSoundKey (length columns)) {x = made} same (record { some = omega (arith, r.2); distinct = r.0; there = r.1 })
    ]

key_sound : (path : List ℕ) (columns : List NamedColumn) (primary : Bool) (value : Data) (key : Key) → key_read path columns primary value ≡ Ok key → IsSoundKey (length columns) key
key_sound path columns primary value key h =
    let (names, _, k) = bound (of_kind path (as_array value)) (names_read path columns primary) key h in names_sound path columns primary names key k

primary_sound : (table : List ℕ) (columns : List NamedColumn) (value : Option Data) (keys : List Key) → primary_read table columns value ≡ Ok keys → All (IsSoundKey (length columns)) keys
primary_sound table columns None keys h =
    let same : [] ≡ keys = cc in subst (All (IsSoundKey (length columns))) same (All-nil (IsSoundKey (length columns)))
primary_sound table columns (Some names) keys h =
    let (key, read, last) = bound (key_read (field_path table (codes "primary_key")) columns true names) (λ k. Ok (k ∷ [])) keys h in
    let same : key ∷ [] ≡ keys = cc in
    subst (All (IsSoundKey (length columns))) same (All-cons (IsSoundKey (length columns)) key [] (key_sound _ columns true names key read) (All-nil (IsSoundKey (length columns))))

unique_from_sound : (table : List ℕ) (columns : List NamedColumn) (i : ℕ) (entries : Items) (keys : List Key) → unique_from table columns i entries ≡ Ok keys → All (IsSoundKey (length columns)) keys
unique_from_sound table columns i no_items keys h =
    let same : [] ≡ keys = cc in subst (All (IsSoundKey (length columns))) same (All-nil (IsSoundKey (length columns)))
unique_from_sound table columns i (item names more) keys h =
    let (key, read, k) = bound (key_read (unique_path table i) columns false names) (λ key. unique_from table columns (i + 1) more >>= (λ keys. Ok (key ∷ keys))) keys h in
    let (others, rest, last) = bound (unique_from table columns (i + 1) more) (λ keys. Ok (key ∷ keys)) keys k in
    let same : key ∷ others ≡ keys = cc in
    subst (All (IsSoundKey (length columns))) same (All-cons (IsSoundKey (length columns)) key others (key_sound _ columns false names key read) (unique_from_sound table columns (i + 1) more others rest))

unique_sound : (table : List ℕ) (columns : List NamedColumn) (value : Option Data) (keys : List Key) → unique_read table columns value ≡ Ok keys → All (IsSoundKey (length columns)) keys
unique_sound table columns None keys h =
    let same : [] ≡ keys = cc in subst (All (IsSoundKey (length columns))) same (All-nil (IsSoundKey (length columns)))
unique_sound table columns (Some value) keys h =
    let (entries, _, k) = bound (of_kind (field_path table (codes "unique")) (as_array value)) (unique_from table columns 0) keys h in unique_from_sound table columns 0 entries keys k

keys_sound : (table : List ℕ) (columns : List NamedColumn) (fields : Members) (keys : List Key) → keys_read table columns fields ≡ Ok keys → All (IsSoundKey (length columns)) keys
keys_sound table columns fields keys h =
    let (primary, first, k) = bound (primary_read table columns (get_member (codes "primary_key") fields)) (λ p. unique_read table columns (get_member (codes "unique") fields) >>= (λ u. Ok (p ++ u))) keys h in
    let (unique, second, last) = bound (unique_read table columns (get_member (codes "unique") fields)) (λ u. Ok (primary ++ u)) keys k in
    let same : primary ++ unique ≡ keys = cc in
    subst (All (IsSoundKey (length columns))) same (All-append (IsSoundKey (length columns)) primary unique (primary_sound table columns (get_member (codes "primary_key") fields) primary first) (unique_sound table columns (get_member (codes "unique") fields) unique second))

-- ---- tables

rows_fit_sound : (path : List ℕ) (number : ℤ) (rows : ℕ) → rows_fit path number ≡ Ok rows → 1 ≤ rows
rows_fit_sound path (pos n) rows h =
    elim (cases_Bool (nat_le 1 n && nat_le n 4294967295)) [
      | inl fits ↦
          let k = rw fits at h in
          let least : 1 ≤ n = grind (arith, nat_tests) in
          let same : n ≡ rows = cc in
          omega (arith, same)
      | inr outside ↦ let k = rw outside at h in cc
    ]
rows_fit_sound path (negsuc n) rows h = cc

rows_sound : (path : List ℕ) (value : Option Data) (rows : ℕ) → rows_read path value ≡ Ok rows → 1 ≤ rows
rows_sound path None rows h = cc
rows_sound path (Some value) rows h =
    let (number, _, k) = bound (of_kind path (as_integer value)) (rows_fit path) rows h in rows_fit_sound path number rows k

-- what is shown of a table that is read
abbrev pub IsReadTable : TableDef → Type 0
IsReadTable def = IsSoundTable def × IsOfSize def

-- the checks of a table, from each of them on
module _ (table : List ℕ) where
  abbrev from_keys : List ℕ → ℕ → Members → List NamedColumn → Read TableDef
  from_keys file rows fields columns = keys_read table columns fields >>= (λ keys. Ok (record { file = file; rows = rows; columns = columns; keys = keys }))

  abbrev from_columns : List ℕ → Members → ℕ → Read TableDef
  from_columns file fields rows = columns_read table (get_member (codes "columns") fields) >>= from_keys file rows fields

  abbrev from_rows : Members → List ℕ → Read TableDef
  from_rows fields file = rows_read (field_path table (codes "rows")) (get_member (codes "rows") fields) >>= from_columns file fields

  abbrev from_file : Members → Read TableDef
  from_file fields = text_read (field_path table (codes "file")) (get_member (codes "file") fields) >>= from_rows fields

  abbrev from_members : Members → Read TableDef
  from_members fields = keys_known (field_path table) (unknown_key level.Table fields) >>= (λ _. from_file fields)

  abbrev from_value : Data → Read TableDef
  from_value value = of_kind (table_path table) (as_table value) >>= from_members

  table_sound : (value : Data) (def : TableDef) → table_read table value ≡ Ok def → IsReadTable def
  table_sound value def h =
      let (_, _, h1) = bound (name_fits (table_path table) table) (λ _. from_value value) def h in
      let (fields, _, h2) = bound (of_kind (table_path table) (as_table value)) from_members def h1 in
      let (_, _, h3) = bound (keys_known (field_path table) (unknown_key level.Table fields)) (λ _. from_file fields) def h2 in
      let (file, _, h4) = bound (text_read (field_path table (codes "file")) (get_member (codes "file") fields)) (from_rows fields) def h3 in
      let (rows, stated, h5) = bound (rows_read (field_path table (codes "rows")) (get_member (codes "rows") fields)) (from_columns file fields) def h4 in
      let (columns, read, h6) = bound (columns_read table (get_member (codes "columns") fields)) (from_keys file rows fields) def h5 in
      let (keys, keyed, h7) = bound (keys_read table columns fields) (λ keys. Ok (record { file = file; rows = rows; columns = columns; keys = keys })) def h6 in
      let made : TableDef = record { file = file; rows = rows; columns = columns; keys = keys } in
      let same : made ≡ def = cc in
      let are = columns_read_sound table (get_member (codes "columns") fields) columns read in
      let some : 1 ≤ rows = rows_sound (field_path table (codes "rows")) (get_member (codes "rows") fields) rows stated in
      subst IsReadTable {x = made} same (record { rows = some; names = are.0; keys = keys_sound table columns fields keys keyed }, record { some = are.1; few = are.2 })

tables_sound : (tables : Members) (defs : List NamedTable) → tables_read tables ≡ Ok defs → All (λ table. IsReadTable table.1) defs
tables_sound no_members defs h =
    let same : [] ≡ defs = cc in subst (All (λ table. IsReadTable table.1)) same (All-nil (λ table. IsReadTable table.1))
tables_sound (member table value more) defs h =
    let (def, read, k) = bound (table_read table value) (λ def. tables_read more >>= (λ tables. Ok ((table, def) ∷ tables))) defs h in
    let (others, rest, last) = bound (tables_read more) (λ tables. Ok ((table, def) ∷ tables)) defs k in
    let same : (table, def) ∷ others ≡ defs = cc in
    subst (All (λ table. IsReadTable table.1)) same (All-cons (λ table. IsReadTable table.1) (table, def) others (table_sound table value def read) (tables_sound more others rest))

top_tables_sound : (value : Option Data) (defs : List NamedTable) → top_tables_read value ≡ Ok defs → All (λ table. IsReadTable table.1) defs
top_tables_sound None defs h = cc
top_tables_sound (Some value) defs h =
    let (tables, _, k) = bound (of_kind (codes "tables") (as_table value)) tables_read defs h in tables_sound tables defs k

-- the checks of a document, from the third and from the second on
abbrev from_tables : Members → Read Catalog
from_tables top = top_tables_read (get_member (codes "tables") top) >>= (λ tables. Ok (record { tables = tables }))

abbrev from_top : Members → Read Catalog
from_top top = keys_known (λ key. key) (unknown_key level.Top top) >>= (λ _. from_tables top)

pub document_sound : (top : Option Members) (catalog : Catalog) → document_read top ≡ Ok catalog → All (λ table. IsReadTable table.1) catalog.tables
document_sound None catalog h = cc
document_sound (Some top) catalog h =
    let (_, _, h1) = bound (version_read (get_member (codes "version") top)) (λ _. from_top top) catalog h in
    let (_, _, h2) = bound (keys_known (λ key. key) (unknown_key level.Top top)) (λ _. from_tables top) catalog h1 in
    let (tables, read, h3) = bound (top_tables_read (get_member (codes "tables") top)) (λ tables. Ok (record { tables = tables })) catalog h2 in
    let made : Catalog = record { tables = tables } in
    let same : made ≡ catalog = cc in
    subst (λ (c : Catalog). All (λ table. IsReadTable table.1) c.tables) {x = made} same (top_tables_sound (get_member (codes "tables") top) tables read)
