-- Tables that are loaded one after the other belong to the schema of their catalogue.
use Rattle.std.proofs.Common.{◌≡◌, ◌^◌, ℤ, pos, negsuc, ◌∙◌, ap, sym, subst, refl, ℕ, zero, suc, ◌<◌, ◌≤◌, List, [], ◌∷◌, ◌++◌, ◌+◌, take, length, map, Option, Some, None, arith, get_or}
use Rattle.std.specs.Prelude.{All, Any, nat_abs, slice_get, slice_set, FitsSigned, replicate}
use Rattle.std.specs.Int.{w64}
use Rattle.std.specs.List.{slice_index_or}
use Rattle.std.specs.Option.{option_map}
use Rattle.std.proofs.lemmas.List.{length-map, take_all, take_more}
use Rattle.std.proofs.lemmas.List.Elements.{All-append, All-contains, All-weaker, Contains-get_or}
use Rattle.std.proofs.lemmas.Option.{get_or_from_slice_get, slice_get-map, slice_get_within}
use Rattle.jp_base.specs.declared.values.Value.{Value}
use Rattle.jp_base.specs.declared.values.Value.TheVariants as value
use Rattle.jp_base.specs.declared.values.Ty.{Ty}
use Rattle.jp_base.specs.declared.values.Ty.TheVariants as ty
use Rattle.jp_catalog.specs.declared.types.Catalog.{Catalog}
use Rattle.jp_catalog.specs.declared.types.TableDef.{TableDef}
use Rattle.jp_query.specs.Tables.{TableRows, IsLoaded, Belong, IsCellOf, IsRowOf as IsRowOfColumns}
use Rattle.jp_query.specs.Mentions.{first_of_each}
use Rattle.jp_query.specs.Scopes.{Column, Schema}
use Rattle.jp_laws.proofs.MentionLaws.{same_members}
use Rattle.jp_table.specs.Keys.{KeysHold}
use Rattle.jp_table.specs.Loading.{column_types}
use Rattle.jp_table.specs.Rows.{FitsColumn, IsRowOf}
use Rattle.jp_resolution.specs.Schemas.{schema_of, schema_column, schema_columns, table_columns}
use Rattle.joinplan.specs.Answers.{NamedTable, none_loaded}
use Rattle.joinplan.specs.Faults.{IsTableFile}
use Rattle.joinplan.specs.Loaded.{KeysKept}

none_belong : (tables : List NamedTable) → Belong (map table_columns tables) (map (λ table. None) tables)
none_belong [] = tt
none_belong (table ∷ tables) = (tt, none_belong tables)

pub nothing_belongs : (catalog : Catalog) → Belong (schema_of catalog) (none_loaded catalog)
nothing_belongs catalog = none_belong catalog.tables

-- as many places as the schema has
pub belong_length : (schema : Schema) (tables : TableRows) → Belong schema tables → length tables ≡ length schema
belong_length [] [] h = refl
belong_length (columns ∷ schema) (table ∷ tables) h = ap suc (belong_length schema tables h.1)
belong_length [] (table ∷ tables) h = absurd h
belong_length (columns ∷ schema) [] h = absurd h

pub set_belongs : (schema : Schema) (tables : TableRows) (place : ℕ) (columns : List Column) (rows : List (List Value)) → Belong schema tables → slice_get schema place ≡ Some columns → All (IsRowOfColumns columns) rows → Belong schema (slice_set tables place (Some rows))
set_belongs [] [] place columns rows h at fit = tt
set_belongs [] (table ∷ tables) place columns rows h at fit = absurd h
set_belongs (own ∷ schema) [] place columns rows h at fit = absurd h
set_belongs (own ∷ schema) (table ∷ tables) zero columns rows h at fit =
    let same : own ≡ columns = cc in
    (subst (λ cs. All (IsRowOfColumns cs) rows) (sym same) fit, h.1)
set_belongs (own ∷ schema) (table ∷ tables) (suc place) columns rows h at fit = (h.0, set_belongs schema tables place columns rows h.1 at fit)

get_set : (tables : TableRows) (place : ℕ) (rows : List (List Value)) → place < length tables → slice_get (slice_set tables place (Some rows)) place ≡ Some (Some rows)
get_set [] place rows below = absurd (omega (arith, below))
get_set (table ∷ tables) zero rows below = refl
get_set (table ∷ tables) (suc place) rows below = get_set tables place rows (omega (arith, below))

pub set_loaded : (tables : TableRows) (place : ℕ) (rows : List (List Value)) → place < length tables → IsLoaded (slice_set tables place (Some rows)) place
set_loaded tables place rows below = (rows, get_set tables place rows below)

pub still_loaded : (tables : TableRows) (place other : ℕ) (rows : List (List Value)) → IsLoaded tables other → IsLoaded (slice_set tables place (Some rows)) other
still_loaded [] place other rows h = h
still_loaded (table ∷ tables) zero zero rows h = (rows, refl)
still_loaded (table ∷ tables) zero (suc other) rows h = h
still_loaded (table ∷ tables) (suc place) zero rows h = h
still_loaded (table ∷ tables) (suc place) (suc other) rows h = still_loaded tables place other rows h

-- ---- rows

abs_within : (n : ℤ) → FitsSigned w64 n → nat_abs n ≤ 2 ^ 63
abs_within (pos n) h = omega (arith, h)
abs_within (negsuc n) h = omega (arith, h)

cell_fits : (column : List ℕ × Ty) (cell : Value) → FitsColumn column.1 cell → IsCellOf (schema_column column) cell
cell_fits (name, ty.Number) value.Null h = record { typed = tt; within = tt }
cell_fits (name, ty.Boolean) value.Null h = record { typed = tt; within = tt }
cell_fits (name, ty.Text) value.Null h = record { typed = tt; within = tt }
cell_fits (name, ty.Number) (value.Num n) h = record { typed = tt; within = abs_within n h }
cell_fits (name, ty.Boolean) (value.Bool b) h = record { typed = tt; within = tt }
cell_fits (name, ty.Text) (value.Text s) h = record { typed = tt; within = tt }
cell_fits (name, ty.Number) (value.Bool b) h = absurd h
cell_fits (name, ty.Number) (value.Text s) h = absurd h
cell_fits (name, ty.Boolean) (value.Num n) h = absurd h
cell_fits (name, ty.Boolean) (value.Text s) h = absurd h
cell_fits (name, ty.Text) (value.Num n) h = absurd h
cell_fits (name, ty.Text) (value.Bool b) h = absurd h

row_fits : (columns : List (List ℕ × Ty)) (row : List Value) → length row ≡ length columns → ((i : ℕ) → i < length columns → FitsColumn (slice_index_or (map (λ column. column.1) columns) i ty.Number) (slice_index_or row i value.Null)) → IsRowOfColumns (schema_columns columns) row
row_fits [] [] same fit = tt
row_fits [] (cell ∷ row) same fit = absurd cc
row_fits (column ∷ columns) [] same fit = absurd cc
row_fits (column ∷ columns) (cell ∷ row) same fit = (cell_fits column cell (fit zero (omega arith)), row_fits columns row (omega (arith, same)) (λ i below. fit (suc i) (omega (arith, below))))

pub rows_fit : (def : TableDef) (rows : List (List Value)) → All (IsRowOf (column_types def)) rows → All (IsRowOfColumns (schema_columns def.columns)) rows
rows_fit def rows fit =
    All-weaker (IsRowOf (column_types def)) (IsRowOfColumns (schema_columns def.columns)) (λ row h. row_fits def.columns row (h.width ∙ length-map def.columns (λ column. column.1)) (λ i below. h.values i (omega (arith, below, length-map def.columns (λ column. column.1))))) rows fit

-- the columns of a place of the catalogue
pub columns_listed : (catalog : Catalog) (place : ℕ) (table : NamedTable) → slice_get catalog.tables place ≡ Some table → slice_get (schema_of catalog) place ≡ Some (table_columns table)
columns_listed catalog place table at = slice_get-map table_columns catalog.tables place ∙ ap (option_map table_columns) at

-- a place for each table
pub none_made : (tables : List NamedTable) → replicate {A = Option (List (List Value))} (length tables) None ≡ map (λ table. None) tables
none_made [] = refl
none_made (table ∷ tables) = ap (λ ts. None ∷ ts) (none_made tables)

-- what stands at a place of a list
pub listed_at : {X : Type 0} (xs : List X) (i : ℕ) → i < length xs → (x : X) × (slice_get xs i ≡ Some x)
listed_at [] i below = absurd (omega (arith, below))
listed_at (x ∷ xs) zero below = (x, refl)
listed_at (x ∷ xs) (suc i) below = listed_at xs i (omega (arith, below))

any_at : (tables : List NamedTable) (place : ℕ) (table : NamedTable) → slice_get tables place ≡ Some table → Any (λ (t : NamedTable). t.1.file ≡ table.1.file) tables
any_at [] place table at = absurd cc
any_at (first ∷ tables) zero table at = let same : first ≡ table = cc in (0, first, omega arith, refl, ap (λ (t : NamedTable). t.1.file) same)
any_at (first ∷ tables) (suc place) table at =
    let (k, found, below, is, file) = any_at tables place table at in
    (suc k, found, omega (arith, below), is, file)

-- the file of a table of the catalogue
pub table_file : (catalog : Catalog) (place : ℕ) (table : NamedTable) (name : List ℕ) → slice_get catalog.tables place ≡ Some table → name ≡ table.1.file → IsTableFile catalog name
table_file catalog place table name at is = subst (λ n. Any (λ (t : NamedTable). t.1.file ≡ n) catalog.tables) (sym is) (any_at catalog.tables place table at)

pub only_one : {X : Type 0} (P : X → Type 0) (x : X) → P x → All P (x ∷ [])
only_one P x one zero d below = one
only_one P x one (suc k) d below = absurd (omega (arith, below))

-- what holds of the first of a list, and of one more
pub all_more : {X : Type 0} (P : X → Type 0) (xs : List X) (i : ℕ) (x : X) → slice_get xs i ≡ Some x → All P (take i xs) → P x → All P (take (i + 1) xs)
all_more P xs i x found all one =
    let more : take (i + 1) xs ≡ take i xs ++ x ∷ [] = take_more xs i x (slice_get_within xs i x found) ∙ ap (λ y. take i xs ++ y ∷ []) (get_or_from_slice_get xs i x x found) in
    subst (All P) (sym more) (All-append P (take i xs) (x ∷ []) all (only_one P x one))

pub all_taken : {X : Type 0} (P : X → Type 0) (xs : List X) (i : ℕ) → length xs ≤ i → All P (take i xs) → All P xs
all_taken P xs i past all = subst (All P) (take_all i xs past) all

-- ---- keys

none_kept : (tables : List NamedTable) → KeysKept tables (map (λ table. None) tables)
none_kept [] = tt
none_kept (table ∷ tables) = none_kept tables

pub nothing_kept : (catalog : Catalog) → KeysKept catalog.tables (none_loaded catalog)
nothing_kept catalog = none_kept catalog.tables

pub set_kept : (tables : List NamedTable) (loaded : TableRows) (place : ℕ) (table : NamedTable) (rows : List (List Value)) → KeysKept tables loaded → slice_get tables place ≡ Some table → KeysHold table.1 rows → KeysKept tables (slice_set loaded place (Some rows))
set_kept [] loaded place table rows h at keys = absurd cc
set_kept (own ∷ tables) [] place table rows h at keys = tt
set_kept (own ∷ tables) (None ∷ loaded) zero table rows h at keys =
    let same : own ≡ table = cc in
    (subst (λ (t : NamedTable). KeysHold t.1 rows) (sym same) keys, h)
set_kept (own ∷ tables) (Some others ∷ loaded) zero table rows h at keys =
    let same : own ≡ table = cc in
    (subst (λ (t : NamedTable). KeysHold t.1 rows) (sym same) keys, h.1)
set_kept (own ∷ tables) (None ∷ loaded) (suc place) table rows h at keys = set_kept tables loaded place table rows h at keys
set_kept (own ∷ tables) (Some others ∷ loaded) (suc place) table rows h at keys = (h.0, set_kept tables loaded place table rows h.1 at keys)

-- ---- the tables that are mentioned

-- what holds of each number where it first stands holds of all, and the other way round
pub all_of_each : (P : ℕ → Type 0) (numbers : List ℕ) → All P (first_of_each numbers) → All P numbers
all_of_each P numbers all = λ k d below. All-contains P (first_of_each numbers) (get_or numbers k d) all ((same_members numbers (get_or numbers k d)).1 (Contains-get_or numbers k d below))

pub firsts_of_all : (P : ℕ → Type 0) (numbers : List ℕ) → All P numbers → All P (first_of_each numbers)
firsts_of_all P numbers all = λ k d below. All-contains P numbers (get_or (first_of_each numbers) k d) all ((same_members numbers (get_or (first_of_each numbers) k d)).0 (Contains-get_or (first_of_each numbers) k d below))
