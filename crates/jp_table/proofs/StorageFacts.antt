-- How rows and columns meet.
use Rattle.std.proofs.Common.{◌≡◌, ◌≤◌, ◌<◌, ◌+◌, ℕ, zero, suc, List, [], ◌∷◌, ◌++◌, length, get_or, set, map, refl, sym, ap, ap₂, ◌∙◌, arith}
use Rattle.std.proofs.lemmas.List.FromFn.{get_or-map-range_with_len, length-map-range_with_len, map-range_with_len_more}
use Rattle.std.proofs.lemmas.List.{get_or-map, length-append, length-map}
use Rattle.std.specs.List.{range_with_len}
use Rattle.std.specs.Prelude.{All}
use Rattle.jp_base.specs.declared.values.Value.{Value}
use Rattle.jp_base.specs.declared.values.Value.TheVariants as value
use Rattle.jp_table.specs.Storage.{AllHave, HaveRows, Stored, cell_at, row_at, rows_of, types_of, with_row, with_value}

-- an empty row leaves the columns as they were
pub with_no_row : (columns : List Stored) → with_row columns [] ≡ columns
with_no_row [] = refl
with_no_row (c ∷ cs) = refl

-- the value of the next column
pub with_row_more : (columns : List Stored) (row : List Value) (v : Value) (d : Stored) → length row < length columns
    → set (with_row columns row) (length row) (with_value (get_or (with_row columns row) (length row) d) v) ≡ with_row columns (row ++ v ∷ [])
with_row_more [] row v d h = absurd (omega arith)
with_row_more (c ∷ cs) [] v d h = ap (λ (x : List Stored). with_value c v ∷ x) (sym (with_no_row cs))
with_row_more (c ∷ cs) (w ∷ row) v d h = ap (λ (x : List Stored). with_value c w ∷ x) (with_row_more cs row v d (omega arith))

pub types-with_row : (columns : List Stored) (row : List Value) → types_of (with_row columns row) ≡ types_of columns
types-with_row [] row = refl
types-with_row (c ∷ cs) [] = refl
types-with_row (c ∷ cs) (v ∷ row) = ap (λ (x : List _). c.0 ∷ x) (types-with_row cs row)

pub length-with_row : (columns : List Stored) (row : List Value) → length (with_row columns row) ≡ length columns
length-with_row [] row = refl
length-with_row (c ∷ cs) [] = refl
length-with_row (c ∷ cs) (v ∷ row) = ap suc (length-with_row cs row)

-- the column that is next isn't reached yet
pub next-with_row : (columns : List Stored) (row : List Value) (d : Stored) → get_or (with_row columns row) (length row) d ≡ get_or columns (length row) d
next-with_row [] [] d = refl
next-with_row [] (v ∷ row) d = refl
next-with_row (c ∷ cs) [] d = refl
next-with_row (c ∷ cs) (v ∷ row) d = next-with_row cs row d

have_slot : (c : Stored) (v : Value) (n : ℕ) → length c.1 ≡ n → length (with_value c v).1 ≡ n + 1
have_slot c v n h = omega (arith, length-append c.1 (v ∷ []))

-- with a value for each column, each has one more
pub have-with_row : (columns : List Stored) (row : List Value) (n : ℕ) → length row ≡ length columns → AllHave n columns → AllHave (n + 1) (with_row columns row)
have-with_row columns row n e h = λ (k : ℕ) (d : Stored) l. at columns row k d e (λ (j : ℕ) m. h j d m) (omega (arith, length-with_row columns row))
  where
    at : (columns : List Stored) (row : List Value) (k : ℕ) (d : Stored) → length row ≡ length columns → ((j : ℕ) → j < length columns → length (get_or columns j d).1 ≡ n) → k < length columns → length (get_or (with_row columns row) k d).1 ≡ n + 1
    at [] row k d e h l = absurd (omega arith)
    at (c ∷ cs) [] k d e h l = absurd (omega arith)
    at (c ∷ cs) (v ∷ row) zero d e h l = have_slot c v n (h 0 (omega arith))
    at (c ∷ cs) (v ∷ row) (suc k) d e h l = at cs row k d (omega arith) (λ j m. h (suc j) (omega arith)) (omega arith)

-- an earlier value stays
kept_value : (xs : List Value) (v : Value) (r : ℕ) → r < length xs → get_or (xs ++ v ∷ []) r value.Null ≡ get_or xs r value.Null
kept_value [] v r h = absurd (omega arith)
kept_value (x ∷ xs) v zero h = refl
kept_value (x ∷ xs) v (suc r) h = kept_value xs v r (omega arith)

last_value : (xs : List Value) (v : Value) → get_or (xs ++ v ∷ []) (length xs) value.Null ≡ v
last_value [] v = refl
last_value (x ∷ xs) v = last_value xs v

-- the earlier rows stay
kept_row : (columns : List Stored) (row : List Value) (r : ℕ) → ((k : ℕ) (d : Stored) → k < length columns → r < length (get_or columns k d).1) → row_at (with_row columns row) r ≡ row_at columns r
kept_row [] row r h = refl
kept_row (c ∷ cs) [] r h = refl
kept_row (c ∷ cs) (v ∷ row) r h =
    ap₂ (λ (x : Value) (xs : List Value). x ∷ xs) (kept_value c.1 v r (h 0 c (omega arith))) (kept_row cs row r (λ k d l. h (suc k) d (omega arith)))

-- the new row comes last
last_row : (columns : List Stored) (row : List Value) (n : ℕ) → length row ≡ length columns → ((k : ℕ) (d : Stored) → k < length columns → length (get_or columns k d).1 ≡ n) → row_at (with_row columns row) n ≡ row
last_row [] [] n e h = refl
last_row [] (v ∷ row) n e h = absurd (omega arith)
last_row (c ∷ cs) [] n e h = absurd (omega arith)
last_row (c ∷ cs) (v ∷ row) n e h =
    let first : length c.1 ≡ n = h 0 c (omega arith) in
    ap₂ (λ (x : Value) (xs : List Value). x ∷ xs) (rw (← first) (last_value c.1 v)) (last_row cs row n (omega arith) (λ k d l. h (suc k) d (omega arith)))

same_range : (f g : ℕ → List Value) (a n : ℕ) → ((r : ℕ) → a ≤ r → r < a + n → f r ≡ g r) → map f (range_with_len a n) ≡ map g (range_with_len a n)
same_range f g a zero h = refl
same_range f g a (suc n) h =
    ap₂ (λ (x : List Value) (xs : List (List Value)). x ∷ xs) (h a (omega arith) (omega arith)) (same_range f g (a + 1) n (λ r l m. h r (omega arith) (omega arith)))

pub rows-with_row : (columns : List Stored) (row : List Value) (n : ℕ) → length row ≡ length columns → AllHave n columns
    → rows_of (with_row columns row) (n + 1) ≡ rows_of columns n ++ row ∷ []
rows-with_row columns row n e h =
    map-range_with_len_more (row_at (with_row columns row)) 0 n n (omega arith)
    ∙ ap₂ (λ (xs : List (List Value)) (x : List Value). xs ++ x ∷ [])
    (same_range (row_at (with_row columns row)) (row_at columns) 0 n (λ r l m. kept_row columns row r (λ k d j. omega (arith, h k d j))))
    (last_row columns row n e (λ k d j. h k d j))

-- some values more leave the rows as they were
pub rows-with_part : (columns : List Stored) (row : List Value) (n : ℕ) → AllHave n columns → rows_of (with_row columns row) n ≡ rows_of columns n
rows-with_part columns row n h = same_range (row_at (with_row columns row)) (row_at columns) 0 n (λ r l m. kept_row columns row r (λ k d j. omega (arith, h k d j)))

pub have-with_part : (columns : List Stored) (row : List Value) (n : ℕ) → AllHave n columns → HaveRows n (with_row columns row)
have-with_part columns row n h = λ (k : ℕ) (d : Stored) l. at columns row k d (λ (j : ℕ) m. h j d m) (omega (arith, length-with_row columns row))
  where
    at : (columns : List Stored) (row : List Value) (k : ℕ) (d : Stored) → ((j : ℕ) → j < length columns → length (get_or columns j d).1 ≡ n) → k < length columns → n ≤ length (get_or (with_row columns row) k d).1
    at [] row k d h l = absurd (omega arith)
    at (c ∷ cs) [] k d h l = omega (arith, h k l)
    at (c ∷ cs) (v ∷ row) zero d h l = omega (arith, h 0 (omega arith), length-append c.1 (v ∷ []))
    at (c ∷ cs) (v ∷ row) (suc k) d h l = at cs row k d (λ j m. h (suc j) (omega arith)) (omega arith)

pub have_all : (columns : List Stored) (n : ℕ) → AllHave n columns → HaveRows n columns
have_all columns n h = λ (k : ℕ) (d : Stored) l. omega (arith, h k d l)

pub length-rows : (columns : List Stored) (n : ℕ) → length (rows_of columns n) ≡ n
length-rows columns n = length-map-range_with_len (row_at columns) 0 n

pub length-row_at : (columns : List Stored) (r : ℕ) → length (row_at columns r) ≡ length columns
length-row_at columns r = length-map columns (λ (column : Stored). get_or column.1 r value.Null)

rows-at : (columns : List Stored) (n r : ℕ) → r < n → get_or (rows_of columns n) r [] ≡ row_at columns r
rows-at columns n r h = get_or-map-range_with_len (row_at columns) 0 n r r [] h (omega arith)

-- each row has a value for each column
pub width-rows : (columns : List Stored) (n w : ℕ) → w ≡ length columns → All (λ (row : List Value). length row ≡ w) (rows_of columns n)
width-rows columns n w e = λ (r : ℕ) (d : List Value) h.
    let few : r < n = omega (arith, h, length-rows columns n) in
    let is : get_or (rows_of columns n) r d ≡ row_at columns r = get_or-map-range_with_len (row_at columns) 0 n r r d few (omega arith) in
    ap length is ∙ (length-row_at columns r ∙ sym e)

-- a row and a column of the rows are ones of the columns
pub col_there : (rows : List (List Value)) (columns : List Stored) (n r k : ℕ) → rows_of columns n ≡ rows → r < length rows → k < length (get_or rows r []) → (r < n) × (k < length columns)
col_there rows columns n r k e h g =
    let few : r < n = omega (arith, length-rows columns n, ap length e) in
    let row : get_or rows r [] ≡ row_at columns r = rw (← e) (rows-at columns n r few) in
    (few, omega (arith, length-row_at columns r, ap length row))

pub cell_is : (rows : List (List Value)) (columns : List Stored) (n r k : ℕ) (column : Stored) → rows_of columns n ≡ rows → r < n → k < length columns
    → column ≡ get_or columns k column → get_or column.1 r value.Null ≡ cell_at rows r k
cell_is rows columns n r k column e h g is =
    let row : get_or rows r [] ≡ row_at columns r = rw (← e) (rows-at columns n r h) in
    rw row (ap (λ (c : Stored). get_or c.1 r value.Null) is ∙ sym (get_or-map (λ (c : Stored). get_or c.1 r value.Null) columns k column value.Null g))
