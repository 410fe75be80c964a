-- A file judged in two passes is judged as its definition says.
use Rattle.std.proofs.Common.{◌≡◌, ◌≤◌, ◌<◌, ◌+◌, ℕ, zero, suc, Bool, true, false, cond, List, [], ◌∷◌, ◌++◌, length, get_or, take, drop, Option, Some, None, Ok, Err, refl, sym, ap, ap₂, ◌∙◌, arith, add-one, append_assoc, lt-ltb, ltb-true}
use Rattle.std.proofs.Math.Seq.{take-suc}
use Rattle.std.proofs.lemmas.List.{append-nil, drop_all, length-append}
use Rattle.std.proofs.lemmas.List.Elements.{filter-append}
use Rattle.std.specs.List.{filter, list_any, position}
use Rattle.std.specs.Prelude.{nat_lt}
use Rattle.jp_base.specs.declared.values.Value.{Value}
use Rattle.jp_base.specs.declared.values.Ty.{Ty}
use Rattle.jp_catalog.specs.declared.types.Key.{Key}
use Rattle.jp_table.specs.Judging.{Check, Pass, after_keys, first_refusal, is_kind, keys_hold, no_null, no_repeat, record_of, refusal_then, rows_read, sooner, stopped}
use Rattle.jp_table.specs.Loading.{◌>>=◌, Judged, has_null, is_primary, judged_keys, keys_read, repeats, row_read, rows_after}
use Rattle.jp_table.specs.declared.error.TableError.{TableError}
use Rattle.jp_table.specs.declared.error.TableError.TheVariants as error

abbrev Row : Type 0
Row = List Value

-- ---- rows first, then keys

-- what the rows found and those of the records that are left come to
abbrev judged_from : List Ty → List Key → List Row → List (List (List ℕ)) → Judged (List Row)
judged_from types keys rows records =
    after_keys (first_refusal (keys_hold keys) rows (rows_read types (length rows) records).0) (rows ++ (rows_read types (length rows) records).0, (rows_read types (length rows) records).1)

later_pass : (types : List Ty) (rows : List Row) (row : Row) (records : List (List (List ℕ))) → rows_read types (length (rows ++ row ∷ [])) records ≡ rows_read types (length rows + 1) records
later_pass types rows row records = ap (λ (n : ℕ). rows_read types n records) (length-append rows (row ∷ []))

-- the pass over the records after a row, from the rows before it
one_row_more : (refusal : Option TableError) (rows : List Row) (row : Row) (pass : Pass)
    → after_keys refusal ((rows ++ row ∷ []) ++ pass.0, pass.1) ≡ after_keys refusal (rows ++ row ∷ pass.0, pass.1)
one_row_more refusal rows row pass = ap (λ (whole : List Row). after_keys refusal (whole, pass.1)) (append_assoc rows (row ∷ []) pass.0)

pub rows_judged : (types : List Ty) (keys : List Key) (rows : List Row) (records : List (List (List ℕ))) → rows_after types keys rows records ≡ judged_from types keys rows records
rows_judged types keys rows [] = ap (λ (whole : List Row). stopped None whole) (sym (append-nil rows))
rows_judged types keys rows (fields ∷ more) = by (row_read types (length rows + 1) fields) refl (λ (row : Row). rows_judged types keys (rows ++ row ∷ []) more)
  where
    by : (j : Judged Row) → row_read types (length rows + 1) fields ≡ j
        → ((row : Row) → rows_after types keys (rows ++ row ∷ []) more ≡ judged_from types keys (rows ++ row ∷ []) more)
        → rows_after types keys rows (fields ∷ more) ≡ judged_from types keys rows (fields ∷ more)
    by (Err e) q next = rw q refl
    by (Ok row) q next = on (keys_read (length rows + 1) keys rows row) refl
      where
        on : (j : Judged (Unit {0})) → keys_read (length rows + 1) keys rows row ≡ j → rows_after types keys rows (fields ∷ more) ≡ judged_from types keys rows (fields ∷ more)
        on (Err e) k = rw (q, k) refl
        on (Ok u) k =
            rw (q, k) (next row
            ∙ (ap (λ (p : Pass). after_keys (first_refusal (keys_hold keys) (rows ++ row ∷ []) p.0) ((rows ++ row ∷ []) ++ p.0, p.1)) (later_pass types rows row more)
            ∙ one_row_more (first_refusal (keys_hold keys) (rows ++ row ∷ []) (rows_read types (length rows + 1) more).0) rows row (rows_read types (length rows + 1) more)))

-- where they come to rows, no key refuses them
pub rows_kept : (refusal : Option TableError) (pass : Pass) (whole : List Row) → after_keys refusal pass ≡ Ok whole → (refusal ≡ None) × (pass.0 ≡ whole)
rows_kept (Some e) pass whole q = absurd (let never = q in cc)
rows_kept None pass whole q = (refl, by pass.1 q)
  where
    by : (o : Option TableError) → stopped o pass.0 ≡ Ok whole → pass.0 ≡ whole
    by (Some e) w = absurd (let never = w in cc)
    by None w = let is : pass.0 ≡ whole = cc in is

-- ---- two checks

abbrev both : Check → Check → Check
both c d earlier row = c earlier row >>= (λ _. d earlier row)

-- a refusal of the check names the row's record
abbrev NamesRecord : Check → Type 0
NamesRecord c = (earlier : List Row) (row : Row) (e : TableError) → c earlier row ≡ Err e → record_of e ≡ length earlier + 1

same_refusal : (a b : TableError) → Some a ≡ Some b → a ≡ b
same_refusal a b e = cc

comes_later : (c : Check) → NamesRecord c → (earlier rows : List Row) (e : TableError) → first_refusal c earlier rows ≡ Some e → length earlier + 1 ≤ record_of e
comes_later c names earlier [] e q = absurd (let never = q in cc)
comes_later c names earlier (row ∷ rows) e q = by (c earlier row) refl q (comes_later c names (earlier ++ row ∷ []) rows e)
  where
    by : (j : Judged (Unit {0})) → c earlier row ≡ j → refusal_then (c earlier row) (first_refusal c (earlier ++ row ∷ []) rows) ≡ Some e
        → (first_refusal c (earlier ++ row ∷ []) rows ≡ Some e → length (earlier ++ row ∷ []) + 1 ≤ record_of e) → length earlier + 1 ≤ record_of e
    by (Ok u) p w more = omega (arith, more (rw p at w), length-append earlier (row ∷ []))
    by (Err x) p w more =
        let same : x ≡ e = same_refusal x e (rw p at w) in
        rw (← same) (omega (arith, names earlier row x p))

first_stays : (e : TableError) (o : Option TableError) → ((f : TableError) → o ≡ Some f → record_of e ≤ record_of f) → Some e ≡ sooner (Some e) o
first_stays e None h = refl
first_stays e (Some f) h = by (nat_lt (record_of f) (record_of e)) refl
  where
    by : (b : Bool) → nat_lt (record_of f) (record_of e) ≡ b → Some e ≡ cond b (Some f) (Some e)
    by true t = absurd (omega (arith, h f refl, ltb-true (record_of f) (record_of e) t))
    by false t = refl

second_comes : (f : TableError) (o : Option TableError) → ((e : TableError) → o ≡ Some e → record_of f < record_of e) → Some f ≡ sooner o (Some f)
second_comes f None h = refl
second_comes f (Some e) h = rw (lt-ltb (record_of f) (record_of e) (h e refl)) refl

first_both : (c d : Check) → NamesRecord c → NamesRecord d → (earlier rows : List Row)
    → first_refusal (both c d) earlier rows ≡ sooner (first_refusal c earlier rows) (first_refusal d earlier rows)
first_both c d nc nd earlier [] = refl
first_both c d nc nd earlier (row ∷ rows) = by (c earlier row) refl (d earlier row) refl (first_both c d nc nd (earlier ++ row ∷ []) rows)
  where
    by : (j : Judged (Unit {0})) → c earlier row ≡ j → (k : Judged (Unit {0})) → d earlier row ≡ k
        → first_refusal (both c d) (earlier ++ row ∷ []) rows ≡ sooner (first_refusal c (earlier ++ row ∷ []) rows) (first_refusal d (earlier ++ row ∷ []) rows)
        → first_refusal (both c d) earlier (row ∷ rows) ≡ sooner (first_refusal c earlier (row ∷ rows)) (first_refusal d earlier (row ∷ rows))
    by (Ok u) p (Ok v) q more = rw (p, q) more
    by (Ok u) p (Err f) q more =
        rw (p, q) (second_comes f (first_refusal c (earlier ++ row ∷ []) rows)
        (λ (e : TableError) w. omega (arith, nd earlier row f q, comes_later c nc (earlier ++ row ∷ []) rows e w, length-append earlier (row ∷ []))))
    by (Err e) p k q more =
        let stays : Some e ≡ sooner (Some e) (first_refusal d earlier (row ∷ rows)) = first_stays e (first_refusal d earlier (row ∷ rows))
        (λ (f : TableError) w. omega (arith, nc earlier row e p, comes_later d nd earlier (row ∷ rows) f w)) in
        rw p stays

first_same : (c d : Check) → ((earlier : List Row) (row : Row) → c earlier row ≡ d earlier row) → (earlier rows : List Row) → first_refusal c earlier rows ≡ first_refusal d earlier rows
first_same c d h earlier [] = refl
first_same c d h earlier (row ∷ rows) = ap₂ refusal_then (h earlier row) (first_same c d h (earlier ++ row ∷ []) rows)

-- ---- the checks of keys

abbrev passed : Judged (Unit {0})
passed = Ok tt

null_named : (keys : List Key) → NamesRecord (no_null keys)
null_named keys earlier row e q = by (list_any (has_null row) (filter is_primary keys)) q
  where
    by : (b : Bool) → cond b (Err (error.NullInKey (length earlier + 1))) passed ≡ Err e → record_of e ≡ length earlier + 1
    by true w = let is : error.NullInKey (length earlier + 1) ≡ e = cc in rw (← is) refl
    by false w = absurd (let never = w in cc)

repeat_named : (keys : List Key) → NamesRecord (no_repeat keys)
repeat_named [] earlier row e q = absurd (let never = q in cc)
repeat_named (key ∷ keys) earlier row e q = by (position (repeats key row) earlier) refl (repeat_named keys earlier row e)
  where
    by : (o : Option ℕ) → position (repeats key row) earlier ≡ o → (no_repeat keys earlier row ≡ Err e → record_of e ≡ length earlier + 1) → record_of e ≡ length earlier + 1
    by None p more = more (rw p at q)
    by (Some m) p more =
        let stop : Err (error.KeyRepeated (m + 1) (length earlier + 1)) ≡ Err e = rw p at q in
        let is : error.KeyRepeated (m + 1) (length earlier + 1) ≡ e = cc in rw (← is) refl

repeats_joined : (xs ys : List Key) (earlier : List Row) (row : Row) → no_repeat (xs ++ ys) earlier row ≡ both (no_repeat xs) (no_repeat ys) earlier row
repeats_joined [] ys earlier row = refl
repeats_joined (key ∷ xs) ys earlier row = by (position (repeats key row) earlier) refl (repeats_joined xs ys earlier row)
  where
    by : (o : Option ℕ) → position (repeats key row) earlier ≡ o → no_repeat (xs ++ ys) earlier row ≡ both (no_repeat xs) (no_repeat ys) earlier row
        → no_repeat ((key ∷ xs) ++ ys) earlier row ≡ both (no_repeat (key ∷ xs)) (no_repeat ys) earlier row
    by None p more = rw p more
    by (Some m) p more = rw p refl

-- keys more
pub repeat_more : (xs ys : List Key) (rows : List Row)
    → first_refusal (no_repeat (xs ++ ys)) [] rows ≡ sooner (first_refusal (no_repeat xs) [] rows) (first_refusal (no_repeat ys) [] rows)
repeat_more xs ys rows = first_same (no_repeat (xs ++ ys)) (both (no_repeat xs) (no_repeat ys)) (repeats_joined xs ys) [] rows ∙ first_both (no_repeat xs) (no_repeat ys) (repeat_named xs) (repeat_named ys) [] rows

-- all checks of keys
pub keys_first : (keys : List Key) (rows : List Row)
    → sooner (first_refusal (no_null keys) [] rows) (sooner (first_refusal (no_repeat (filter (is_kind true) keys)) [] rows) (first_refusal (no_repeat (filter (is_kind false) keys)) [] rows))
    ≡ first_refusal (keys_hold keys) [] rows
keys_first keys rows =
    sym (first_both (no_null keys) (no_repeat (judged_keys keys)) (null_named keys) (repeat_named (judged_keys keys)) [] rows
    ∙ ap (λ (o : Option TableError). sooner (first_refusal (no_null keys) [] rows) o) (repeat_more (filter (is_kind true) keys) (filter (is_kind false) keys) rows))

-- a key more in a list of keys of one kind
kind_more : (b : Bool) (keys : List Key) (i : ℕ) (key : Key) → i < length keys → key ≡ get_or keys i key
    → filter (is_kind b) (take (i + 1) keys) ≡ filter (is_kind b) (take i keys) ++ cond (is_kind b key) (key ∷ []) []
kind_more b keys i key h at =
    rw add-one (ap (filter (is_kind b)) (take-suc keys i key h ∙ ap (λ (k : Key). take i keys ++ k ∷ []) (sym at)) ∙ filter-append (is_kind b) (take i keys) (key ∷ []))

pub kind_taken : (b : Bool) (keys : List Key) (i : ℕ) (key : Key) (rows : List Row) → i < length keys → key ≡ get_or keys i key → is_kind b key ≡ true
    → sooner (first_refusal (no_repeat (filter (is_kind b) (take i keys))) [] rows) (first_refusal (no_repeat (key ∷ [])) [] rows) ≡ first_refusal (no_repeat (filter (is_kind b) (take (i + 1) keys))) [] rows
kind_taken b keys i key rows h at t = rw (kind_more b keys i key h at, t) (sym (repeat_more (filter (is_kind b) (take i keys)) (key ∷ []) rows))

pub kind_left : (b : Bool) (keys : List Key) (i : ℕ) (key : Key) (rows : List Row) → i < length keys → key ≡ get_or keys i key → is_kind b key ≡ false
    → first_refusal (no_repeat (filter (is_kind b) (take i keys))) [] rows ≡ first_refusal (no_repeat (filter (is_kind b) (take (i + 1) keys))) [] rows
kind_left b keys i key rows h at t =
    ap (λ (ks : List Key). first_refusal (no_repeat ks) [] rows) (sym (append-nil (filter (is_kind b) (take i keys)))) ∙ rw (kind_more b keys i key h at, t) refl

-- ---- a check, row by row

suc_row : (rows : List Row) (n : ℕ) (row : Row) → n < length rows → get_or rows n [] ≡ row → (drop n rows ≡ row ∷ drop (suc n) rows) × (take n rows ++ row ∷ [] ≡ take (suc n) rows)
suc_row [] n row h e = absurd (omega arith)
suc_row (r ∷ rs) zero row h e = (ap (λ (x : Row). x ∷ rs) e, ap (λ (x : Row). x ∷ []) (sym e))
suc_row (r ∷ rs) (suc n) row h e = let rest = suc_row rs n row (omega arith) e in (rest.0, ap (λ (xs : List Row). r ∷ xs) rest.1)

at_row : (rows : List Row) (n : ℕ) → n < length rows → (drop n rows ≡ get_or rows n [] ∷ drop (n + 1) rows) × (take n rows ++ get_or rows n [] ∷ [] ≡ take (n + 1) rows)
at_row rows n h = rw add-one (suc_row rows n (get_or rows n []) h refl)

pub row_passed : (c : Check) (rows : List Row) (n : ℕ) → n < length rows → c (take n rows) (get_or rows n []) ≡ Ok tt
    → first_refusal c (take (n + 1) rows) (drop (n + 1) rows) ≡ first_refusal c (take n rows) (drop n rows)
row_passed c rows n h ok = let at = at_row rows n h in rw (at.0, ok, at.1) refl

pub row_refused : (c : Check) (rows : List Row) (n : ℕ) (e : TableError) → n < length rows → c (take n rows) (get_or rows n []) ≡ Err e
    → Some e ≡ first_refusal c (take n rows) (drop n rows)
row_refused c rows n e h bad = let at = at_row rows n h in rw (at.0, bad) refl

pub rows_passed : (c : Check) (rows : List Row) (n : ℕ) → length rows ≤ n → None ≡ first_refusal c (take n rows) (drop n rows)
rows_passed c rows n h = rw (drop_all n rows h) refl

-- where a check refuses no row, it passes at each
pub row_passes : (c : Check) (earlier rows : List Row) → first_refusal c earlier rows ≡ None → (n : ℕ) (d : Row) → n < length rows → c (earlier ++ take n rows) (get_or rows n d) ≡ Ok tt
row_passes c earlier [] q n d h = absurd (omega arith)
row_passes c earlier (row ∷ rows) q n d h = by (c earlier row) refl (row_passes c (earlier ++ row ∷ []) rows) n h
  where
    by : (j : Judged (Unit {0})) → c earlier row ≡ j
        → (first_refusal c (earlier ++ row ∷ []) rows ≡ None → (n : ℕ) (d : Row) → n < length rows → c ((earlier ++ row ∷ []) ++ take n rows) (get_or rows n d) ≡ Ok tt)
        → (n : ℕ) → n < length (row ∷ rows) → c (earlier ++ take n (row ∷ rows)) (get_or (row ∷ rows) n d) ≡ Ok tt
    by (Err e) p more n h = absurd (let never = rw p at q in cc)
    by (Ok u) p more zero h = rw (append-nil earlier) p
    by (Ok u) p more (suc n) h = rw (← (append_assoc earlier (row ∷ []) (take n rows))) (more (rw p at q) n d (omega arith))

-- no key refuses nothing
pub no_keys : (earlier rows : List Row) → None ≡ first_refusal (no_repeat []) earlier rows
no_keys earlier [] = refl
no_keys earlier (row ∷ rows) = no_keys (earlier ++ row ∷ []) rows
