-- The rows that repeat a row in a key, by the values of the key.
use Rattle.std.proofs.Common.{◌≡◌, ◌≤◌, ◌<◌, ◌+◌, ℕ, Bool, true, false, cond, ◌&&◌, eqb-true, eqb, List, [], ◌∷◌, ◌++◌, length, get_or, take, drop, map, Some, None, Ok, Vec, Global, refl, sym, ap, ap₂, ◌∙◌, arith, add-one, lt-ltb}
use Rattle.std.proofs.lemmas.Bool.{eqb-false, false≢true, le-ltb}
use Rattle.std.proofs.lemmas.List.{length-append, length-take-le}
use Rattle.std.proofs.Math.Seq.{take-suc}
use Rattle.std.proofs.lemmas.List.Folds.{position_or_len_push}
use Rattle.std.proofs.lemmas.List.Quantifiers.{position-Some}
use Rattle.std.proofs.lemmas.List.Sums.{position_or_len_is, prefix_len-le-length}
use Rattle.std.proofs.lemmas.Map.Text.{is_eq-slice_cmp}
use Rattle.std.specs.Cmp.Lexicographic.{pointwise}
use Rattle.std.specs.List.{list_any, position, position_or_len}
use Rattle.std.specs.Prelude.{not}
use Rattle.jp_base.specs.Values.{are_equal, is_null}
use Rattle.jp_base.proofs.ValueOrder.{equal_is}
use Rattle.jp_base.specs.declared.values.Value.{Value}
use Rattle.jp_base.specs.declared.values.Value.TheVariants as value
use Rattle.jp_catalog.specs.declared.types.Key.{Key}
use Rattle.jp_table.specs.Judging.{first_refusal, no_repeat}
use Rattle.jp_table.specs.Loading.{has_null, key_values, repeats}
use Rattle.jp_table.specs.Parts.{value_of_part}
use Rattle.jp_table.specs.contracts.part.PartPartialEq.TheImpl as part_equal
use Rattle.jp_table.specs.declared.part.Part.{Part}
use Rattle.jp_table.specs.declared.part.Part.TheVariants as part
use Rattle.jp_table.specs.declared.error.TableError.TheVariants as error
use Rattle.jp_table.proofs.JudgingFacts.{row_passed, row_refused}

abbrev Row : Type 0
Row = List Value

-- ---- parts of keys

abbrev pub same_part : Part → Part → Bool
same_part = (part_equal.ghosts).eq

abbrev pub same_parts : Vec Part Global → Vec Part Global → Bool
same_parts x y = pointwise same_part x.items y.items

same_truth : (a b : Bool) → same_part (part.Boolean a) (part.Boolean b) ≡ are_equal (value.Bool a) (value.Bool b)
same_truth true true = refl
same_truth true false = refl
same_truth false true = refl
same_truth false false = refl

same_value : (p q : Part) → same_part p q ≡ are_equal (value_of_part p) (value_of_part q)
same_value (part.Number a) (part.Number b) = refl
same_value (part.Boolean a) (part.Boolean b) = same_truth a b
same_value (part.Text a) (part.Text b) = sym (is_eq-slice_cmp a.now b.now)
same_value (part.Number a) (part.Boolean b) = refl
same_value (part.Number a) (part.Text b) = refl
same_value (part.Boolean a) (part.Number b) = refl
same_value (part.Boolean a) (part.Text b) = refl
same_value (part.Text a) (part.Number b) = refl
same_value (part.Text a) (part.Boolean b) = refl

-- the row has these values in the key
abbrev pub has_parts : Key → List Part → Row → Bool
has_parts key parts row = pointwise are_equal (key_values key row) (map value_of_part parts)

same_values : (ps qs : List Part) → pointwise same_part ps qs ≡ pointwise are_equal (map value_of_part ps) (map value_of_part qs)
same_values [] [] = refl
same_values [] (q ∷ qs) = refl
same_values (p ∷ ps) [] = refl
same_values (p ∷ ps) (q ∷ qs) = ap₂ (λ (a b : Bool). a && b) (same_value p q) (same_values ps qs)

and_parts : (a b : Bool) → (a && b) ≡ true → (a ≡ true) × (b ≡ true)
and_parts true true e = (refl, refl)
and_parts true false e = absurd (false≢true e)
and_parts false b e = absurd (false≢true e)

equal_all : (xs ys : List Value) → pointwise are_equal xs ys ≡ true → xs ≡ ys
equal_all [] [] e = refl
equal_all [] (y ∷ ys) e = absurd (false≢true e)
equal_all (x ∷ xs) [] e = absurd (false≢true e)
equal_all (x ∷ xs) (y ∷ ys) e =
    let both = and_parts (are_equal x y) (pointwise are_equal xs ys) e in
    ap₂ (λ (v : Value) (vs : List Value). v ∷ vs) (equal_is x y both.0) (equal_all xs ys both.1)

after_first : (x : Value) (xs ys : List Value) → ((zs : List Value) → pointwise are_equal xs zs ≡ false) → pointwise are_equal (x ∷ xs) ys ≡ false
after_first x xs [] h = refl
after_first x xs (y ∷ ys) h = by (are_equal x y)
  where
    by : (b : Bool) → (b && pointwise are_equal xs ys) ≡ false
    by true = h ys
    by false = refl

-- a NULL is equal to nothing
null_apart : (xs ys : List Value) → list_any is_null xs ≡ true → pointwise are_equal xs ys ≡ false
null_apart [] ys e = absurd (false≢true e)
null_apart (value.Null ∷ xs) [] e = refl
null_apart (value.Null ∷ xs) (y ∷ ys) e = refl
null_apart (value.Num n ∷ xs) ys e = after_first (value.Num n) xs ys (λ (zs : List Value). null_apart xs zs e)
null_apart (value.Bool b ∷ xs) ys e = after_first (value.Bool b) xs ys (λ (zs : List Value). null_apart xs zs e)
null_apart (value.Text t ∷ xs) ys e = after_first (value.Text t) xs ys (λ (zs : List Value). null_apart xs zs e)

-- equal values are equal from either side
apart_turned : (xs ys : List Value) → pointwise are_equal xs ys ≡ false → pointwise are_equal ys xs ≡ false
apart_turned xs ys e = by (pointwise are_equal ys xs) refl
  where
    by : (b : Bool) → pointwise are_equal ys xs ≡ b → b ≡ false
    by false t = refl
    by true t =
        let same : ys ≡ xs = equal_all ys xs t in
        let here : pointwise are_equal xs xs ≡ true = rw same at t in
        let there : pointwise are_equal xs xs ≡ false = rw same at e in
        absurd (false≢true (sym there ∙ here))

-- ---- the first row that passes a test, one row more

module _ (p : Row → Bool) (rows : List Row) (row : Row) where
  kept_none : p row ≡ false → position p (rows ++ row ∷ []) ≡ position p rows
  kept_none e = by (eqb (position_or_len p rows) (length rows)) refl
    where
      by : (b : Bool) → eqb (position_or_len p rows) (length rows) ≡ b → position p (rows ++ row ∷ []) ≡ position p rows
      by true t =
          let at_end : position_or_len p rows ≡ length rows = eqb-true _ _ t in
          let next : position_or_len p (rows ++ row ∷ []) ≡ length rows + 1 = position_or_len_push p rows row ∙ rw (t, e) refl in
          rw (next, at_end, le-ltb (length rows + 1) (length (rows ++ row ∷ [])) (omega (arith, length-append rows (row ∷ []))), le-ltb (length rows) (length rows) (omega arith)) refl
      by false t =
          let few : position_or_len p rows < length rows = omega (arith, eqb-false _ _ t, prefix_len-le-length (λ x. not (p x)) rows) in
          let next : position_or_len p (rows ++ row ∷ []) ≡ position_or_len p rows = position_or_len_push p rows row ∙ rw t refl in
          rw (next, lt-ltb (position_or_len p rows) (length (rows ++ row ∷ [])) (omega (arith, few, length-append rows (row ∷ []))), lt-ltb (position_or_len p rows) (length rows) few) refl

  found_last : p row ≡ true → position p rows ≡ None → position p (rows ++ row ∷ []) ≡ Some (length rows)
  found_last e none = by (eqb (position_or_len p rows) (length rows)) refl
    where
      by : (b : Bool) → eqb (position_or_len p rows) (length rows) ≡ b → position p (rows ++ row ∷ []) ≡ Some (length rows)
      by true t =
          let next : position_or_len p (rows ++ row ∷ []) ≡ length rows + 0 = position_or_len_push p rows row ∙ rw (t, e) refl in
          let here : position_or_len p (rows ++ row ∷ []) ≡ length rows = omega (arith, next) in
          rw (here, lt-ltb (length rows) (length (rows ++ row ∷ [])) (omega (arith, length-append rows (row ∷ [])))) refl
      by false t =
          let few : position_or_len p rows < length rows = omega (arith, eqb-false _ _ t, prefix_len-le-length (λ x. not (p x)) rows) in
          absurd (let never : Some (position_or_len p rows) ≡ None = rw (lt-ltb (position_or_len p rows) (length rows) few) at none in cc)

none_place : (p : Row → Bool) (rows : List Row) → ((row : Row) → p row ≡ false) → position p rows ≡ None
none_place p rows h =
    let all : position_or_len p rows ≡ length rows = position_or_len_is p rows (length rows) [] (omega arith) (λ k l. h (get_or rows k [])) (λ l. absurd (omega arith)) in
    rw (all, le-ltb (length rows) (length rows) (omega arith)) refl

-- ---- a row more

taken : (rows : List Row) (n : ℕ) → n < length rows → take (n + 1) rows ≡ take n rows ++ get_or rows n [] ∷ []
taken rows n h = rw add-one (take-suc rows n [] h)

-- a row with a NULL in the key has no values of a key
pub null_seen : (key : Key) (rows : List Row) (n : ℕ) (parts : List Part) → n < length rows → has_null (get_or rows n []) key ≡ true
    → position (has_parts key parts) (take n rows) ≡ position (has_parts key parts) (take (n + 1) rows)
null_seen key rows n parts h e =
    rw (taken rows n h) (sym (kept_none (has_parts key parts) (take n rows) (get_or rows n []) (null_apart (key_values key (get_or rows n [])) (map value_of_part parts) e)))

-- a row whose values are new
pub new_seen : (key : Key) (rows : List Row) (n : ℕ) (found parts : List Part) → n < length rows → map value_of_part found ≡ key_values key (get_or rows n [])
    → position (has_parts key found) (take n rows) ≡ None
    → cond (pointwise same_part found parts) (Some n) (position (has_parts key parts) (take n rows)) ≡ position (has_parts key parts) (take (n + 1) rows)
new_seen key rows n found parts h is none = rw (taken rows n h) (by (pointwise same_part found parts) refl)
  where
    row : Row
    row = get_or rows n []

    by : (b : Bool) → pointwise same_part found parts ≡ b
        → cond b (Some n) (position (has_parts key parts) (take n rows)) ≡ position (has_parts key parts) (take n rows ++ get_or rows n [] ∷ [])
    by true t =
        let equal : pointwise are_equal (map value_of_part found) (map value_of_part parts) ≡ true = sym (same_values found parts) ∙ t in
        let one : map value_of_part found ≡ map value_of_part parts = equal_all (map value_of_part found) (map value_of_part parts) equal in
        let passes : has_parts key parts (get_or rows n []) ≡ true = rw (← is) equal in
        let before : position (has_parts key parts) (take n rows) ≡ None = rw (← one) none in
        let last : position (has_parts key parts) (take n rows ++ get_or rows n [] ∷ []) ≡ Some (length (take n rows)) = found_last (has_parts key parts) (take n rows) (get_or rows n []) passes before in
        sym (last ∙ ap Some (length-take-le n rows (omega arith)))
    by false t =
        let apart : has_parts key parts (get_or rows n []) ≡ false = rw (← is) (sym (same_values found parts) ∙ t) in
        sym (kept_none (has_parts key parts) (take n rows) (get_or rows n []) apart)

-- ---- the check of one key

-- the row repeats the earlier ones that have its values
repeated_by : (key : Key) (row : Row) (found : List Part) (rows : List Row) → map value_of_part found ≡ key_values key row → position (repeats key row) rows ≡ position (has_parts key found) rows
repeated_by key row found rows is = rw (← is) refl

none_repeat : (key : Key) (rows : List Row) (row : Row) (n : ℕ) → position (repeats key row) rows ≡ None → no_repeat (key ∷ []) rows row ≡ Ok tt
none_repeat key rows row n e = rw e refl

pub null_passes : (key : Key) (rows : List Row) (n : ℕ) → n < length rows → has_null (get_or rows n []) key ≡ true
    → first_refusal (no_repeat (key ∷ [])) (take (n + 1) rows) (drop (n + 1) rows) ≡ first_refusal (no_repeat (key ∷ [])) (take n rows) (drop n rows)
null_passes key rows n h e =
    row_passed (no_repeat (key ∷ [])) rows n h (none_repeat key (take n rows) (get_or rows n []) n (no_place (take n rows)))
  where
    no_place : (earlier : List Row) → position (repeats key (get_or rows n [])) earlier ≡ None
    no_place earlier = none_place (repeats key (get_or rows n [])) earlier (λ (r : Row). apart_turned (key_values key (get_or rows n [])) (key_values key r) (null_apart (key_values key (get_or rows n [])) (key_values key r) e))

pub new_passes : (key : Key) (rows : List Row) (n : ℕ) (found : List Part) → n < length rows → map value_of_part found ≡ key_values key (get_or rows n []) → position (has_parts key found) (take n rows) ≡ None
    → first_refusal (no_repeat (key ∷ [])) (take (n + 1) rows) (drop (n + 1) rows) ≡ first_refusal (no_repeat (key ∷ [])) (take n rows) (drop n rows)
new_passes key rows n found h is none =
    row_passed (no_repeat (key ∷ [])) rows n h (none_repeat key (take n rows) (get_or rows n []) n (repeated_by key (get_or rows n []) found (take n rows) is ∙ none))

pub repeat_refused : (key : Key) (rows : List Row) (n m : ℕ) (found : List Part) → n < length rows → map value_of_part found ≡ key_values key (get_or rows n []) → position (has_parts key found) (take n rows) ≡ Some m
    → Some (error.KeyRepeated (m + 1) (n + 1)) ≡ first_refusal (no_repeat (key ∷ [])) (take n rows) (drop n rows)
repeat_refused key rows n m found h is some =
    row_refused (no_repeat (key ∷ [])) rows n (error.KeyRepeated (m + 1) (n + 1)) h
    (rw (repeated_by key (get_or rows n []) found (take n rows) is ∙ some, length-take-le n rows (omega arith)) refl)

-- the earlier row stands before
pub repeat_below : (p : Row → Bool) (rows : List Row) (n m : ℕ) → n ≤ length rows → position p (take n rows) ≡ Some m → m < n
repeat_below p rows n m h e = omega (arith, (position-Some p (take n rows) m [] e).0, length-take-le n rows h)
