-- Rows and records, one more at a time.
use Rattle.std.proofs.Common.{◌≡◌, ◌≤◌, ◌<◌, ◌+◌, ℕ, zero, suc, Bool, true, false, ◌&&◌, List, [], ◌∷◌, ◌++◌, length, get_or, set, drop, map, Option, Some, None, Ok, Err, refl, sym, ap, ◌∙◌, arith, add-one, append_assoc}
use Rattle.std.proofs.Math.Seq.{drop-cons}
use Rattle.std.proofs.lemmas.Bool.{eqb-true, ne_eqb}
use Rattle.std.proofs.Math.ListN.{get_or-map}
use Rattle.std.proofs.lemmas.List.{append-nil, drop_all, length-append, length-map, set-get_or}
use Rattle.std.specs.Cmp.Lexicographic.{pointwise}
use Rattle.std.specs.Prelude.{◌==◌, IsOkAnd, IsSomeAnd}
use Rattle.std.specs.Str.{bytes_eq}
use Rattle.jp_base.specs.declared.values.Value.{Value}
use Rattle.jp_base.specs.declared.values.Ty.{Ty}
use Rattle.jp_table.specs.Fields.{value_of_field}
use Rattle.jp_table.specs.Judging.{Pass, after_keys, first_refusal, keys_hold, rows_read}
use Rattle.jp_table.specs.Loading.{◌>>=◌, Judged, bad_field, column_names, column_types, row_read, table_of, values_from}
use Rattle.jp_table.specs.declared.error.TableError.{TableError}
use Rattle.jp_table.specs.declared.error.TableError.TheVariants as error
use Rattle.csv.specs.Reading.{default_config, records, strip_bom}
use Rattle.jp_catalog.specs.declared.types.TableDef.{TableDef}
use Rattle.jp_table.specs.Storage.{AllHave, HasPart, HaveRows, Stored, rows_of, types_of, with_row, with_value}
use Rattle.jp_table.proofs.JudgingFacts.{rows_judged}
use Rattle.jp_table.proofs.StorageFacts.{have-with_part, have-with_row, length-with_row, next-with_row, rows-with_part, rows-with_row, types-with_row, with_no_row, with_row_more}

-- the names of a header, from a place on
pub names-at : (xs ys : List (List ℕ)) (i : ℕ) → i < length xs → i < length ys
    → pointwise bytes_eq (drop i xs) (drop i ys) ≡ (bytes_eq (get_or xs i []) (get_or ys i []) && pointwise bytes_eq (drop (i + 1) xs) (drop (i + 1) ys))
names-at xs ys i h g = rw (add-one, drop-cons xs i [] h, drop-cons ys i [] g) refl

pub names-end : (xs ys : List (List ℕ)) (i : ℕ) → length xs ≤ i → length ys ≤ i → pointwise bytes_eq (drop i xs) (drop i ys) ≡ true
names-end xs ys i h g = rw (drop_all i xs h, drop_all i ys g) refl

-- the values found, and then those of the fields that are left
abbrev pub after : List Value → Judged (List Value) → Judged (List Value)
after row (Ok more) = Ok (row ++ more)
after row (Err e) = Err e

pub after-none : (j : Judged (List Value)) → j ≡ after [] j
after-none (Ok more) = refl
after-none (Err e) = refl

abbrev judged : List Value → Judged (List Value)
judged row = Ok row

more_of : (row : List Value) (v : Value) (j : Judged (List Value)) → after row (after (v ∷ []) j) ≡ after (row ++ v ∷ []) j
more_of row v (Ok more) = ap judged (sym (append_assoc row (v ∷ []) more))
more_of row v (Err e) = refl

pub found_first : (ts : List Ty) (n k : ℕ) (fs : List (List ℕ)) (t : Ty) (f : List ℕ) (v : Value) → value_of_field t f ≡ Some v
    → values_from (t ∷ ts) n k (f ∷ fs) ≡ after (v ∷ []) (values_from ts n (k + 1) fs)
found_first ts n k fs t f v e = rw e (at (values_from ts n (k + 1) fs))
  where
    at : (j : Judged (List Value)) → (j >>= (λ more. Ok (v ∷ more))) ≡ after (v ∷ []) j
    at (Ok more) = refl
    at (Err e) = refl

at_place : {X : Type 0} (xs : List X) (i : ℕ) (d : X) → i < length xs → drop i xs ≡ get_or xs i d ∷ drop (i + 1) xs
at_place xs i d h = rw add-one (drop-cons xs i d h)

-- one more value found
pub values-more : (ts : List Ty) (n : ℕ) (fs : List (List ℕ)) (row : List Value) (i : ℕ) (d : Ty) (v : Value) (whole : Judged (List Value))
    → i < length ts → i < length fs → value_of_field (get_or ts i d) (get_or fs i []) ≡ Some v
    → whole ≡ after row (values_from (drop i ts) n (i + 1) (drop i fs))
    → whole ≡ after (row ++ v ∷ []) (values_from (drop (i + 1) ts) n (i + 1 + 1) (drop (i + 1) fs))
values-more ts n fs row i d v whole h g e w =
    let a = at_place ts i d h in
    let b = at_place fs i [] g in
    let first = found_first (drop (i + 1) ts) n (i + 1) (drop (i + 1) fs) (get_or ts i d) (get_or fs i []) v e in
    w ∙ rw (a, b, first) (more_of row v (values_from (drop (i + 1) ts) n (i + 1 + 1) (drop (i + 1) fs)))

-- a field that says no value
pub values-stop : (ts : List Ty) (n : ℕ) (fs : List (List ℕ)) (row : List Value) (i : ℕ) (d : Ty) (whole : Judged (List Value))
    → i < length ts → i < length fs → value_of_field (get_or ts i d) (get_or fs i []) ≡ None
    → whole ≡ after row (values_from (drop i ts) n (i + 1) (drop i fs))
    → whole ≡ Err (bad_field (get_or ts i d) n (i + 1))
values-stop ts n fs row i d whole h g e w =
    let a = drop-cons ts i d h in
    let b = drop-cons fs i [] g in
    rw (w, a, b, e) refl

-- no field is left
pub values-end : (ts : List Ty) (n : ℕ) (fs : List (List ℕ)) (row : List Value) (i : ℕ) (whole : Judged (List Value))
    → length ts ≤ i → whole ≡ after row (values_from (drop i ts) n (i + 1) (drop i fs)) → whole ≡ Ok row
values-end ts n fs row i whole h w = w ∙ rw (drop_all i ts h, append-nil row) refl

values_width : (ts : List Ty) (n k : ℕ) (fs : List (List ℕ)) (row : List Value) → length fs ≡ length ts → values_from ts n k fs ≡ Ok row → length row ≡ length ts
values_width [] n k fs row l e = let none : [] ≡ row = cc in rw (← none) refl
values_width (t ∷ ts) n k [] row l e = absurd (omega arith)
values_width (t ∷ ts) n k (f ∷ fs) row l e = at (value_of_field t f) refl (λ (more : List Value) w. values_width ts n (k + 1) fs more (omega arith) w)
  where
    at : (o : Option Value) → value_of_field t f ≡ o → ((more : List Value) → values_from ts n (k + 1) fs ≡ Ok more → length more ≡ length ts) → length row ≡ suc (length ts)
    at None q more = let stop = rw q at e in cc
    at (Some v) q more = on (values_from ts n (k + 1) fs) refl (sym (found_first ts n k fs t f v q) ∙ e) more
      where
        on : (j : Judged (List Value)) → values_from ts n (k + 1) fs ≡ j → after (v ∷ []) (values_from ts n (k + 1) fs) ≡ Ok row → ((more : List Value) → values_from ts n (k + 1) fs ≡ Ok more → length more ≡ length ts) → length row ≡ suc (length ts)
        on (Ok rest) q w more =
            let is : v ∷ rest ≡ row = let got = rw q at w in cc in
            rw (← is) (ap suc (more rest q))
        on (Err x) q w more = let stop = rw q at w in cc

-- a row has a value for each column
pub row_width : (ts : List Ty) (n : ℕ) (fs : List (List ℕ)) (row : List Value) → row_read ts n fs ≡ Ok row → length row ≡ length ts
row_width ts n fs row e = at (length fs == length ts) refl
  where
    at : (b : Bool) → (length fs == length ts) ≡ b → length row ≡ length ts
    at true t = values_width ts n 1 fs row (eqb-true (length fs) (length ts) t) (rw t at e)
    at false t = let stop = rw t at e in cc

-- the first fields are in their columns, and the others are left
abbrev pub Pushed : List Stored → List (List ℕ) → ℕ → List Stored → Type 0
Pushed before fs i columns =
    (row : List Value) × (length row ≡ i) × (columns ≡ with_row before row)
    × ((n : ℕ) → values_from (types_of before) n 1 fs ≡ after row (values_from (drop i (types_of before)) n (i + 1) (drop i fs)))

pub pushed-none : (before : List Stored) (fs : List (List ℕ)) → Pushed before fs 0 before
pushed-none before fs = ([], refl, sym (with_no_row before), λ n. after-none (values_from (types_of before) n 1 fs))

pub pushed_length : (before columns : List Stored) (fs : List (List ℕ)) (i : ℕ) → Pushed before fs i columns → length columns ≡ length before
pushed_length before columns fs i p = ap length p.2 ∙ length-with_row before p.0

-- the column that is next has its type from before
next_type : (before columns : List Stored) (row : List Value) (i : ℕ) (c : Stored) → length row ≡ i → columns ≡ with_row before row → c ≡ get_or columns i c
    → get_or (types_of before) i c.0 ≡ c.0
next_type before columns row i c e is at =
    let there : get_or (with_row before row) (length row) c ≡ c = rw (← is, e) (sym at) in
    let same : get_or before i c ≡ c = rw (← e) (sym (next-with_row before row c) ∙ there) in
    get_or-map (λ (x : Stored). x.0) before i c ∙ ap (λ (x : Stored). x.0) same

pub pushed-more : (before columns : List Stored) (fs : List (List ℕ)) (i : ℕ) (c next : Stored) (f : List ℕ)
    → Pushed before fs i columns → i < length before → length fs ≡ length before → c ≡ get_or columns i c → f ≡ get_or fs i []
    → IsSomeAnd (value_of_field c.0 f) (λ v. next ≡ with_value c v) → Pushed before fs (i + 1) (set columns i next)
pushed-more before columns fs i c next f p h l at field found = by (value_of_field c.0 f) refl found
  where
    by : (o : Option Value) → value_of_field c.0 f ≡ o → IsSomeAnd o (λ v. next ≡ with_value c v) → Pushed before fs (i + 1) (set columns i next)
    by None e is = absurd is
    by (Some v) e is =
        let type : get_or (types_of before) i c.0 ≡ c.0 = next_type before columns p.0 i c p.1 p.2 at in
        let value : value_of_field (get_or (types_of before) i c.0) (get_or fs i []) ≡ Some v = rw (type, ← field) e in
        let few : length p.0 < length before = omega (arith, p.1) in
        let there : get_or (with_row before p.0) (length p.0) c ≡ c = rw (← p.2, p.1) (sym at) in
        let put = rw there at (with_row_more before p.0 v c few) in (
          p.0 ++ v ∷ [],
          omega (arith, length-append p.0 (v ∷ []), p.1),
          rw (is, p.2, ← p.1) put,
          λ n. values-more (types_of before) n fs p.0 i c.0 v (values_from (types_of before) n 1 fs) (omega (arith, length-map before (λ (x : Stored). x.0))) (omega arith) value (p.3 n),
        )

pub pushed-stop : (before columns after_it : List Stored) (fs : List (List ℕ)) (i : ℕ) (c next : Stored) (f : List ℕ) (n : ℕ)
    → Pushed before fs i columns → i < length before → length fs ≡ length before → c ≡ get_or columns i c → f ≡ get_or fs i []
    → value_of_field c.0 f ≡ None → next ≡ c → after_it ≡ set columns i next
    → (values_from (types_of before) n 1 fs ≡ Err (bad_field c.0 n (i + 1))) × HasPart before after_it
pushed-stop before columns after_it fs i c next f n p h l at field e same is =
    let type : get_or (types_of before) i c.0 ≡ c.0 = next_type before columns p.0 i c p.1 p.2 at in
    let value : value_of_field (get_or (types_of before) i c.0) (get_or fs i []) ≡ None = rw (type, ← field) e in
    let stop = values-stop (types_of before) n fs p.0 i c.0 (values_from (types_of before) n 1 fs) (omega (arith, length-map before (λ (x : Stored). x.0))) (omega arith) value (p.3 n) in
    let put : set columns i next ≡ columns = ap (set columns i) (same ∙ at) ∙ set-get_or columns i c in
    (rw type at stop, (p.0, is ∙ (put ∙ p.2)))

pub pushed-all : (before columns : List Stored) (fs : List (List ℕ)) (i n : ℕ) → Pushed before fs i columns → length before ≤ i
    → IsOkAnd (values_from (types_of before) n 1 fs) (λ row. columns ≡ with_row before row)
pushed-all before columns fs i n p h =
    rw (values-end (types_of before) n fs p.0 i (values_from (types_of before) n 1 fs) (omega (arith, length-map before (λ (x : Stored). x.0))) (p.3 n)) p.2

-- a record with another number of fields
pub wrong_count : (before : List Stored) (n : ℕ) (fields : List (List ℕ)) (count : ℕ) → count ≡ length fields → (length fields ≡ length before → ⊥)
    → (row_read (types_of before) n fields ≡ Err (error.FieldCount n count)) × HasPart before before
wrong_count before n fields count e apart =
    (rw (ne_eqb (length fields) (length (types_of before)) (λ same. apart (same ∙ length-map before (λ (x : Stored). x.0))), e) refl, ([], sym (with_no_row before)))

-- the rows found, those of the records that are left, and where they stop
abbrev pub found_and_left : List Ty → List (List Value) → ℕ → List (List (List ℕ)) → Pass
found_and_left types rows count records = (rows ++ (rows_read types count records).0, (rows_read types count records).1)

pub all_left : (types : List Ty) (records : List (List (List ℕ))) → found_and_left types [] 0 records ≡ rows_read types 0 records
all_left types records = refl

-- a row more, as the file has it
pub load-more : (before columns next : List Stored) (count : ℕ) (fields : List (List ℕ)) (more : List (List (List ℕ)))
    → types_of columns ≡ types_of before → AllHave count columns
    → IsOkAnd (row_read (types_of columns) (count + 1) fields) (λ row. next ≡ with_row columns row)
    → AllHave (count + 1) next × (types_of next ≡ types_of before)
    × (found_and_left (types_of before) (rows_of next (count + 1)) (count + 1) more ≡ found_and_left (types_of before) (rows_of columns count) count (fields ∷ more))
load-more before columns next count fields more types have ok = by (row_read (types_of columns) (count + 1) fields) refl ok
  where
    by : (j : Judged (List Value)) → row_read (types_of columns) (count + 1) fields ≡ j → IsOkAnd j (λ row. next ≡ with_row columns row)
        → AllHave (count + 1) next × (types_of next ≡ types_of before)
        × (found_and_left (types_of before) (rows_of next (count + 1)) (count + 1) more ≡ found_and_left (types_of before) (rows_of columns count) count (fields ∷ more))
    by (Err e) q is = absurd is
    by (Ok row) q is =
        let width : length row ≡ length columns = omega (arith, row_width (types_of columns) (count + 1) fields row q, length-map columns (λ (x : Stored). x.0)) in
        let read : row_read (types_of before) (count + 1) fields ≡ Ok row = rw (← types) q in
        let later : Pass = rows_read (types_of before) (count + 1) more in
        let one : rows_of next (count + 1) ≡ rows_of columns count ++ row ∷ [] = rw is (rows-with_row columns row count width have) in (
          rw is (have-with_row columns row count width have),
          rw is (types-with_row columns row ∙ types),
          rw (one, read) (ap (λ (rows : List (List Value)). (rows, later.1)) (append_assoc (rows_of columns count) (row ∷ []) later.0)),
        )

abbrev stop_of : List (List Value) → TableError → Pass
stop_of rows e = (rows, Some e)

abbrev pass_of : List (List Value) → Pass
pass_of rows = (rows, None)

-- a record that gives no row
pub load-stop : (before columns next : List Stored) (count : ℕ) (fields : List (List ℕ)) (more : List (List (List ℕ))) (e : TableError)
    → types_of columns ≡ types_of before → AllHave count columns → row_read (types_of columns) (count + 1) fields ≡ Err e → HasPart columns next
    → HaveRows count next × ((rows_of next count, Some e) ≡ found_and_left (types_of before) (rows_of columns count) count (fields ∷ more))
load-stop before columns next count fields more e types have stop part =
    let read : row_read (types_of before) (count + 1) fields ≡ Err e = rw (← types) stop in
    let kept : rows_of next count ≡ rows_of columns count = rw part.1 (rows-with_part columns part.0 count have) in (
      rw part.1 (have-with_part columns part.0 count have),
      rw read (ap (λ (rows : List (List Value)). stop_of rows e) (kept ∙ sym (append-nil (rows_of columns count)))),
    )

-- no record is left
pub load-end : (types : List Ty) (rows : List (List Value)) (count : ℕ) → (rows, None) ≡ found_and_left types rows count []
load-end types rows count = ap (λ (whole : List (List Value)). pass_of whole) (sym (append-nil rows))

abbrev empty_of : List ℕ × Ty → Stored
empty_of column = (column.1, [])

-- columns without rows
pub empty-have : (columns : List (List ℕ × Ty)) → AllHave 0 (map (λ column. (column.1, [])) columns)
empty-have columns = λ (k : ℕ) (d : Stored) h. at columns k d (omega (arith, length-map columns empty_of))
  where
    at : (columns : List (List ℕ × Ty)) (k : ℕ) (d : Stored) → k < length columns → length (get_or (map (λ column. (column.1, [])) columns) k d).1 ≡ 0
    at [] k d h = absurd (omega arith)
    at (c ∷ cs) zero d h = refl
    at (c ∷ cs) (suc k) d h = at cs k d (omega arith)

pub types-empty : (columns : List (List ℕ × Ty)) → types_of (map (λ column. (column.1, [])) columns) ≡ map (λ column. column.1) columns
types-empty [] = refl
types-empty (c ∷ cs) = ap (λ (ts : List Ty). c.1 ∷ ts) (types-empty cs)

-- the table of a file whose first record is the header, by its two passes
pub table_judged : (def : TableDef) (bytes : List ℕ) (header : List (List ℕ)) (more : List (List (List ℕ))) (pass : Pass)
    → records default_config (strip_bom bytes) ≡ header ∷ more → pointwise bytes_eq (column_names def) header ≡ true → pass ≡ rows_read (column_types def) 0 more
    → table_of def bytes ≡ after_keys (first_refusal (keys_hold def.keys) [] pass.0) pass
table_judged def bytes header more pass e h is = rw (e, h) (rows_judged (column_types def) def.keys [] more ∙ rw (← is) refl)

pub no_header : (def : TableDef) (bytes : List ℕ) → records default_config (strip_bom bytes) ≡ [] → table_of def bytes ≡ Err error.Header
no_header def bytes e = rw e refl

pub other_header : (def : TableDef) (bytes : List ℕ) (header : List (List ℕ)) (more : List (List (List ℕ)))
    → records default_config (strip_bom bytes) ≡ header ∷ more → pointwise bytes_eq (column_names def) header ≡ false → table_of def bytes ≡ Err error.Header
other_header def bytes header more e h = rw (e, h) refl
