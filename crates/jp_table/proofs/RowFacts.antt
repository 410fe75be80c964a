-- Each row of a table has a value for each column, which fits it.
use Rattle.std.proofs.Common.{◌≡◌, ◌<◌, ◌+◌, ℕ, zero, suc, Bool, true, false, cond, List, [], ◌∷◌, length, get_or, Option, Some, None, Ok, Err, refl, sym, ap, ◌∙◌, arith}
use Rattle.std.proofs.lemmas.Bool.{eqb-true}
use Rattle.std.proofs.lemmas.List.{length-map}
use Rattle.std.proofs.lemmas.List.Elements.{All-append, All-nil}
use Rattle.std.proofs.lemmas.Str.{IsUtf8-from_is_utf8}
use Rattle.std.specs.Option.{option_map}
use Rattle.std.specs.Prelude.{◌==◌, All}
use Rattle.std.specs.Str.{bytes_eq, is_utf8}
use Rattle.std.specs.Str.Parse.{signed_digits_value}
use Rattle.jp_base.specs.declared.values.Value.{Value}
use Rattle.jp_base.specs.declared.values.Value.TheVariants as value
use Rattle.jp_base.specs.declared.values.Ty.{Ty}
use Rattle.jp_base.specs.declared.values.Ty.TheVariants as ty
use Rattle.jp_catalog.specs.Sound.{IsSoundTable}
use Rattle.jp_catalog.specs.declared.types.Key.{Key}
use Rattle.jp_catalog.specs.declared.types.TableDef.{TableDef}
use Rattle.jp_table.specs.Fields.{is_number, null_mark, number_of, truth_of, value_of_field, value_of_plain}
use Rattle.jp_table.specs.Judging.{HasColumns, rows_read}
use Rattle.jp_table.specs.Loading.{Judged, column_types, row_read, values_from}
use Rattle.jp_table.specs.Rows.{FitsColumn, IsRowOf}
use Rattle.jp_table.proofs.LoadingFacts.{after, found_first}
use Rattle.jp_table.proofs.NumberFacts.{writes}

fits_number : (field : List ℕ) (b : Bool) (v : Value) → is_number field ≡ b → option_map value.Num (cond b (Some (signed_digits_value 10 field)) None) ≡ Some v → FitsColumn ty.Number v
fits_number field true v t e = let is : value.Num (signed_digits_value 10 field) ≡ v = cc in rw (← is) (writes field t).1
fits_number field false v t e = absurd (let never = e in cc)

fits_truth : (o : Option Bool) (v : Value) → option_map value.Bool o ≡ Some v → FitsColumn ty.Boolean v
fits_truth (Some b) v e = let is : value.Bool b ≡ v = cc in rw (← is) tt
fits_truth None v e = absurd (let never = e in cc)

fits_null : (type : Ty) → FitsColumn type value.Null
fits_null ty.Number = tt
fits_null ty.Boolean = tt
fits_null ty.Text = tt

fits_none : (type : Ty) (v : Value) → Some value.Null ≡ Some v → FitsColumn type v
fits_none type v e = let is : value.Null ≡ v = cc in rw (← is) (fits_null type)

fits_plain : (type : Ty) (field : List ℕ) (v : Value) → value_of_plain type field ≡ Some v → FitsColumn type v
fits_plain ty.Number field v = by (length field == 0)
  where
    by : (b : Bool) → cond b (Some value.Null) (option_map value.Num (number_of field)) ≡ Some v → FitsColumn ty.Number v
    by true e = fits_none ty.Number v e
    by false e = fits_number field (is_number field) v refl e
fits_plain ty.Boolean field v = by (length field == 0)
  where
    by : (b : Bool) → cond b (Some value.Null) (option_map value.Bool (truth_of field)) ≡ Some v → FitsColumn ty.Boolean v
    by true e = fits_none ty.Boolean v e
    by false e = fits_truth (truth_of field) v e
fits_plain ty.Text field v = by (is_utf8 field) refl
  where
    by : (b : Bool) → is_utf8 field ≡ b → cond b (Some (value.Text field)) None ≡ Some v → FitsColumn ty.Text v
    by true t e = let is : value.Text field ≡ v = cc in rw (← is) (IsUtf8-from_is_utf8 field t)
    by false t e = absurd (let never = e in cc)

fits_field : (type : Ty) (field : List ℕ) (v : Value) → value_of_field type field ≡ Some v → FitsColumn type v
fits_field type field v = by (bytes_eq field null_mark)
  where
    by : (b : Bool) → cond b (Some value.Null) (value_of_plain type field) ≡ Some v → FitsColumn type v
    by true e = fits_none type v e
    by false e = fits_plain type field v e

no_columns : (row : List Value) → length row ≡ 0 → IsRowOf [] row
no_columns row e = record { width = e; values = λ k h. absurd (omega arith) }

one_more : (type : Ty) (types : List Ty) (v : Value) (row : List Value) → FitsColumn type v → IsRowOf types row → IsRowOf (type ∷ types) (v ∷ row)
one_more type types v row f r = record { width = ap suc r.width; values = at }
  where
    at : (k : ℕ) → k < length (type ∷ types) → FitsColumn (get_or (type ∷ types) k ty.Number) (get_or (v ∷ row) k value.Null)
    at zero h = f
    at (suc k) h = r.values k (omega arith)

fits_values : (types : List Ty) (n k : ℕ) (fields : List (List ℕ)) (row : List Value) → length fields ≡ length types → values_from types n k fields ≡ Ok row → IsRowOf types row
fits_values [] n k fields row l e = let is : [] ≡ row = cc in rw (← is) (no_columns [] refl)
fits_values (t ∷ ts) n k [] row l e = absurd (omega arith)
fits_values (t ∷ ts) n k (f ∷ fs) row l e = by (value_of_field t f) refl (λ (more : List Value) w. fits_values ts n (k + 1) fs more (omega arith) w)
  where
    by : (o : Option Value) → value_of_field t f ≡ o → ((more : List Value) → values_from ts n (k + 1) fs ≡ Ok more → IsRowOf ts more) → IsRowOf (t ∷ ts) row
    by None q more = absurd (let stop = rw q at e in cc)
    by (Some v) q more = on (values_from ts n (k + 1) fs) refl (sym (found_first ts n k fs t f v q) ∙ e) more
      where
        on : (j : Judged (List Value)) → values_from ts n (k + 1) fs ≡ j → after (v ∷ []) (values_from ts n (k + 1) fs) ≡ Ok row → ((more : List Value) → values_from ts n (k + 1) fs ≡ Ok more → IsRowOf ts more) → IsRowOf (t ∷ ts) row
        on (Ok rest) q2 w more =
            let is : v ∷ rest ≡ row = let got = rw q2 at w in cc in
            rw (← is) (one_more t ts v rest (fits_field t f v q) (more rest q2))
        on (Err x) q2 w more = absurd (let stop = rw q2 at w in cc)

fits_row : (types : List Ty) (n : ℕ) (fields : List (List ℕ)) (row : List Value) → row_read types n fields ≡ Ok row → IsRowOf types row
fits_row types n fields row e = by (length fields == length types) refl
  where
    by : (b : Bool) → (length fields == length types) ≡ b → IsRowOf types row
    by true t = fits_values types n 1 fields row (eqb-true (length fields) (length types) t) (rw t at e)
    by false t = absurd (let stop = rw t at e in cc)

one_row : (types : List Ty) (row : List Value) → IsRowOf types row → All (IsRowOf types) (row ∷ [])
one_row types row h = λ (k : ℕ) (d : List Value) l. at k d l
  where
    at : (k : ℕ) (d : List Value) → k < 1 → IsRowOf types (get_or (row ∷ []) k d)
    at zero d l = h
    at (suc k) d l = absurd (omega arith)

-- the rows that are read
pub fits_read : (types : List Ty) (n : ℕ) (records : List (List (List ℕ))) → All (IsRowOf types) (rows_read types n records).0
fits_read types n [] = All-nil (IsRowOf types)
fits_read types n (fields ∷ more) = by (row_read types (n + 1) fields) refl (fits_read types (n + 1) more)
  where
    by : (j : Judged (List Value)) → row_read types (n + 1) fields ≡ j → All (IsRowOf types) (rows_read types (n + 1) more).0 → All (IsRowOf types) (rows_read types n (fields ∷ more)).0
    by (Ok row) q later = rw q (All-append (IsRowOf types) (row ∷ []) (rows_read types (n + 1) more).0 (one_row types row (fits_row types (n + 1) fields row q)) later)
    by (Err e) q later = rw q (All-nil (IsRowOf types))

-- they have the columns of each key
pub columns_there : (def : TableDef) (rows : List (List Value)) → IsSoundTable def → All (IsRowOf (column_types def)) rows → All (HasColumns rows) def.keys
columns_there def rows sound fits = λ (k : ℕ) (key : Key) lk (n : ℕ) (row : List Value) ln (i column : ℕ) li.
    omega (arith, (sound.keys k key lk).there i column li, (fits n row ln).width, length-map def.columns (λ (column : List ℕ × Ty). column.1))
