-- The keys of a table that was loaded hold.
use Rattle.std.proofs.Common.{◌≡◌, ◌≢◌, ◌≤◌, ◌<◌, ◌+◌, ℕ, zero, suc, Bool, true, false, List, [], ◌∷◌, ◌++◌, length, get_or, take, map, Option, Some, None, Ok, Err, inl, inr, refl, sym, ◌∙◌, arith}
use Rattle.std.proofs.Math.Logic.{⊎_elim}
use Rattle.std.proofs.lemmas.Bool.{cases_lt, false≢true, ltb-false, or_parts}
use Rattle.std.proofs.lemmas.List.{length-take, get_or-take}
use Rattle.std.proofs.lemmas.List.Sums.{fails_before_first}
use Rattle.std.specs.Cmp.Lexicographic.{pointwise}
use Rattle.std.specs.List.{filter, list_any, position, position_or_len}
use Rattle.std.specs.Prelude.{All, IfOk, nat_lt}
use Rattle.jp_base.specs.Values.{are_equal, is_null}
use Rattle.jp_base.proofs.ValueOrder.{equal_is}
use Rattle.jp_base.specs.declared.values.Value.{Value}
use Rattle.jp_base.specs.declared.values.Value.TheVariants as value
use Rattle.jp_catalog.specs.declared.types.Key.{Key}
use Rattle.jp_catalog.specs.declared.types.TableDef.{TableDef}
use Rattle.jp_table.specs.Judging.{Pass, after_keys, first_refusal, is_kind, keys_hold}
use Rattle.jp_table.specs.Keys.{AgreeIn, HasNoNull, KeysHold, NoneAgreeIn}
use Rattle.jp_table.specs.Loading.{Agrees, Judged, column_types, has_null, is_primary, judged_keys, keys_new_read, keys_read, repeats}
use Rattle.jp_table.specs.Rows.{IsRowOf}
use Rattle.jp_table.proofs.JudgingFacts.{row_passes, rows_kept}

abbrev Row : Type 0
Row = List Value

-- ---- equal values

turned : (a b : Value) → are_equal a b ≡ true → are_equal b a ≡ true
turned a b e = let same : a ≡ b = equal_is a b e in rw (← same) (rw (← same) at e)

agree_turned : (key : Key) (a b : Row) → AgreeIn key a b → AgreeIn key b a
agree_turned key a b h = λ (k d : ℕ) l. turned (get_or a (get_or key.columns k d) value.Null) (get_or b (get_or key.columns k d) value.Null) (h k d l)

-- ---- what the checks of a row say when they pass

none_null : (key : Key) (row : Row) → has_null row key ≡ false → HasNoNull key row
none_null key row e = λ (k d : ℕ) l. at key.columns e k d l
  where
    not_null : (v : Value) → is_null v ≡ false → v ≢ value.Null
    not_null v e is = let never : true ≡ false = rw is at e in cc

    at : (columns : List ℕ) → list_any is_null (map (λ column. get_or row column value.Null) columns) ≡ false → (k d : ℕ) → k < length columns → get_or row (get_or columns k d) value.Null ≢ value.Null
    at [] e k d l = absurd (omega arith)
    at (c ∷ cs) e zero d l = not_null (get_or row c value.Null) (or_parts _ _ e).0
    at (c ∷ cs) e (suc k) d l = at cs (or_parts (is_null (get_or row c value.Null)) _ e).1 k d (omega arith)

-- a key that a filter keeps passes what none in the filter has
none_kept : (p q : Key → Bool) (keys : List Key) (k : ℕ) (d : Key) → list_any p (filter q keys) ≡ false → k < length keys → q (get_or keys k d) ≡ true → p (get_or keys k d) ≡ false
none_kept p q [] k d e l t = absurd (omega arith)
none_kept p q (key ∷ keys) k d e l t = by (q key) refl k l t (none_kept p q keys)
  where
    by : (b : Bool) → q key ≡ b → (k : ℕ) → k < length (key ∷ keys) → q (get_or (key ∷ keys) k d) ≡ true
        → ((k : ℕ) (d : Key) → list_any p (filter q keys) ≡ false → k < length keys → q (get_or keys k d) ≡ true → p (get_or keys k d) ≡ false)
        → p (get_or (key ∷ keys) k d) ≡ false
    by true w zero l t more = (or_parts (p key) (list_any p (filter q keys)) (rw w at e)).0
    by true w (suc k) l t more = more k d (or_parts (p key) (list_any p (filter q keys)) (rw w at e)).1 (omega arith) t
    by false w zero l t more = absurd (let never : false ≡ true = rw w at t in cc)
    by false w (suc k) l t more = more k d (rw w at e) (omega arith) t

-- likewise for keys that aren't repeated
new_kept : (n : ℕ) (q : Key → Bool) (keys : List Key) (rows : List Row) (row : Row) (k : ℕ) (d : Key) → keys_new_read n (filter q keys) rows row ≡ Ok tt → k < length keys → q (get_or keys k d) ≡ true
    → position (repeats (get_or keys k d) row) rows ≡ None
new_kept n q [] rows row k d e l t = absurd (omega arith)
new_kept n q (key ∷ keys) rows row k d e l t = by (q key) refl k l t (new_kept n q keys rows row)
  where
    first : (o : Option ℕ) → position (repeats key row) rows ≡ o → keys_new_read n (key ∷ filter q keys) rows row ≡ Ok tt → (position (repeats key row) rows ≡ None) × (keys_new_read n (filter q keys) rows row ≡ Ok tt)
    first None p e = (p, rw p at e)
    first (Some m) p e = absurd (let never = rw p at e in cc)

    by : (b : Bool) → q key ≡ b → (k : ℕ) → k < length (key ∷ keys) → q (get_or (key ∷ keys) k d) ≡ true
        → ((k : ℕ) (d : Key) → keys_new_read n (filter q keys) rows row ≡ Ok tt → k < length keys → q (get_or keys k d) ≡ true → position (repeats (get_or keys k d) row) rows ≡ None)
        → position (repeats (get_or (key ∷ keys) k d) row) rows ≡ None
    by true w zero l t more = (first (position (repeats key row) rows) refl (rw w at e)).0
    by true w (suc k) l t more = more k d (first (position (repeats key row) rows) refl (rw w at e)).1 (omega arith) t
    by false w zero l t more = absurd (let never : false ≡ true = rw w at t in cc)
    by false w (suc k) l t more = more k d (rw w at e) (omega arith) t

new_parts : (n : ℕ) (xs ys : List Key) (rows : List Row) (row : Row) → keys_new_read n (xs ++ ys) rows row ≡ Ok tt → (keys_new_read n xs rows row ≡ Ok tt) × (keys_new_read n ys rows row ≡ Ok tt)
new_parts n [] ys rows row e = (refl, e)
new_parts n (key ∷ xs) ys rows row e = by (position (repeats key row) rows) refl (new_parts n xs ys rows row)
  where
    by : (o : Option ℕ) → position (repeats key row) rows ≡ o → (keys_new_read n (xs ++ ys) rows row ≡ Ok tt → (keys_new_read n xs rows row ≡ Ok tt) × (keys_new_read n ys rows row ≡ Ok tt))
        → (keys_new_read n (key ∷ xs) rows row ≡ Ok tt) × (keys_new_read n ys rows row ≡ Ok tt)
    by None p more = rw p (more (rw p at e))
    by (Some m) p more = absurd (let never = rw p at e in cc)

-- no key of the list is repeated
new_all : (n : ℕ) (keys : List Key) (rows : List Row) (row : Row) (k : ℕ) (d : Key) → keys_new_read n (judged_keys keys) rows row ≡ Ok tt → k < length keys → position (repeats (get_or keys k d) row) rows ≡ None
new_all n keys rows row k d e l = by (is_primary (get_or keys k d)) refl
  where
    parts : (keys_new_read n (filter (is_kind true) keys) rows row ≡ Ok tt) × (keys_new_read n (filter (is_kind false) keys) rows row ≡ Ok tt)
    parts = new_parts n (filter (is_kind true) keys) (filter (is_kind false) keys) rows row e

    by : (b : Bool) → is_primary (get_or keys k d) ≡ b → position (repeats (get_or keys k d) row) rows ≡ None
    by true t = new_kept n (is_kind true) keys rows row k d parts.0 l t
    by false t = new_kept n (is_kind false) keys rows row k d parts.1 l (rw t refl)

none_passes : {X : Type 0} (p : X → Bool) (xs : List X) (k : ℕ) (d : X) → position p xs ≡ None → k < length xs → p (get_or xs k d) ≡ false
none_passes p xs k d e l = by (nat_lt (position_or_len p xs) (length xs)) refl
  where
    some_is_not : (i : ℕ) → ¬ (Some i ≡ None)
    some_is_not i e = let never = e in cc

    by : (b : Bool) → nat_lt (position_or_len p xs) (length xs) ≡ b → p (get_or xs k d) ≡ false
    by true t = absurd (some_is_not (position_or_len p xs) (rw t at e))
    by false t = fails_before_first p xs k d (omega (arith, ltb-false (position_or_len p xs) (length xs) t))

agree_repeats : (key : Key) (a b : Row) → AgreeIn key a b → repeats key b a ≡ true
agree_repeats key a b h = at key.columns h
  where
    at : (columns : List ℕ) → ((k d : ℕ) → k < length columns → are_equal (get_or a (get_or columns k d) value.Null) (get_or b (get_or columns k d) value.Null) ≡ true)
        → pointwise are_equal (map (λ column. get_or a column value.Null) columns) (map (λ column. get_or b column value.Null) columns) ≡ true
    at [] h = refl
    at (c ∷ cs) h = rw (h 0 0 (omega arith), at cs (λ (k d : ℕ) l. h (suc k) d (omega arith))) refl

-- ---- a table

-- what the checks of keys say of a row
row_judged : (keys : List Key) (rows : List Row) (n : ℕ) → first_refusal (keys_hold keys) [] rows ≡ None → n < length rows
    → (list_any (has_null (get_or rows n [])) (filter is_primary keys) ≡ false) × (keys_new_read (length (take n rows) + 1) (judged_keys keys) (take n rows) (get_or rows n []) ≡ Ok tt)
row_judged keys rows n e l = by (list_any (has_null (get_or rows n [])) (filter is_primary keys)) refl (row_passes (keys_hold keys) [] rows e n [] l)
  where
    by : (b : Bool) → list_any (has_null (get_or rows n [])) (filter is_primary keys) ≡ b → keys_read (length (take n rows) + 1) keys (take n rows) (get_or rows n []) ≡ Ok tt
        → (list_any (has_null (get_or rows n [])) (filter is_primary keys) ≡ false) × (keys_new_read (length (take n rows) + 1) (judged_keys keys) (take n rows) (get_or rows n []) ≡ Ok tt)
    by true t w = absurd (let never = rw t at w in cc)
    by false t w = (t, rw t at w)

get_default : {X : Type 0} (xs : List X) (k : ℕ) (c d : X) → k < length xs → get_or xs k c ≡ get_or xs k d
get_default [] k c d l = absurd (omega arith)
get_default (x ∷ xs) zero c d l = refl
get_default (x ∷ xs) (suc k) c d l = get_default xs k c d (omega arith)

later_new : (keys : List Key) (rows : List Row) (k : ℕ) (key : Key) (m n : ℕ) → first_refusal (keys_hold keys) [] rows ≡ None → k < length keys → m < n → n < length rows
    → ¬ AgreeIn (get_or keys k key) (get_or rows m []) (get_or rows n [])
later_new keys rows k key m n e lk lm ln same =
    let new = new_all (length (take n rows) + 1) keys (take n rows) (get_or rows n []) k key (row_judged keys rows n e ln).1 lk in
    let few : m < length (take n rows) = omega (arith, length-take n rows) in
    let other : repeats (get_or keys k key) (get_or rows n []) (get_or (take n rows) m []) ≡ false = none_passes (repeats (get_or keys k key) (get_or rows n [])) (take n rows) m [] new few in
    let here : get_or (take n rows) m [] ≡ get_or rows m [] = get_or-take n rows m [] lm in
    let again : repeats (get_or keys k key) (get_or rows n []) (get_or rows m []) ≡ true = agree_repeats (get_or keys k key) (get_or rows m []) (get_or rows n []) same in
    false≢true (sym (rw here at other) ∙ again)

pub keys_kept : (def : TableDef) (rows : List Row) → first_refusal (keys_hold def.keys) [] rows ≡ None → KeysHold def rows
keys_kept def rows e = record { no_null = null_at; distinct = repeat_at }
  where
    null_at : (k : ℕ) (key : Key) → k < length def.keys → (get_or def.keys k key).primary ≡ true → (n : ℕ) (row : Row) → n < length rows → HasNoNull (get_or def.keys k key) (get_or rows n row)
    null_at k key lk t n row ln =
        rw (get_default rows n row [] ln) (none_null (get_or def.keys k key) (get_or rows n [])
        (none_kept (has_null (get_or rows n [])) is_primary def.keys k key (row_judged def.keys rows n e ln).0 lk t))

    repeat_at : (k : ℕ) (key : Key) → k < length def.keys → NoneAgreeIn (get_or def.keys k key) rows
    repeat_at k key lk = λ (m n : ℕ) lm ln apart same. ⊎_elim
        (λ (h : m < n). later_new def.keys rows k key m n e lk h ln same)
        (λ (h : n ≤ m). later_new def.keys rows k key n m e lk (omega arith) lm (agree_turned (get_or def.keys k key) (get_or rows m []) (get_or rows n []) same))
        (cases_lt m n)

-- what holds of the rows of an accepted table
pub accepted : (def : TableDef) (pass : Pass) (answer : Judged (List Row)) → All (IsRowOf (column_types def)) pass.0 → Agrees answer (after_keys (first_refusal (keys_hold def.keys) [] pass.0) pass)
    → IfOk answer (λ rows. All (IsRowOf (column_types def)) rows) × IfOk answer (KeysHold def)
accepted def pass (Ok rows) fits (inl e) = cc
accepted def pass (Ok rows) fits (inr e) =
    let kept = rows_kept (first_refusal (keys_hold def.keys) [] pass.0) pass rows (sym e) in
    (rw (← kept.1) fits, rw (← kept.1) (keys_kept def pass.0 kept.0))
accepted def pass (Err refusal) fits e = (tt, tt)
