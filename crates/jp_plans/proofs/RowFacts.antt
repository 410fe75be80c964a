-- The maps of the rows of an item.
use Rattle.std.proofs.Common.{◌≡◌, ◌∙◌, ap, ap₂, sym, refl, ℕ, zero, suc, ◌+◌, ◌<◌, List, [], ◌∷◌, ◌++◌, length, get_or, take, map, Option, Some, None, arith}
use Rattle.std.specs.Prelude.{All, slice_set}
use Rattle.std.proofs.lemmas.List.{length-set, map-append, take_more}
use Rattle.jp_frame.specs.Maps.{Map}
use Rattle.jp_frame.specs.Methods.{none_row, one_row, rows_of_item}
use Rattle.jp_induction.proofs.EachPart.{Each, all_of_each}
use Rattle.jp_joins.specs.Tuples.{map_of, maps_of}
use Rattle.jp_joins.specs.declared.tuples.Tuple.{Tuple}

next : (n : ℕ) → suc n ≡ n + 1
next n = omega arith

none_after : (n : ℕ) → none_row n ++ None ∷ [] ≡ none_row (suc n)
none_after zero = refl
none_after (suc n) = ap (λ (m : Map). None ∷ m) (none_after n)

pub none_more : (n : ℕ) → none_row n ++ None ∷ [] ≡ none_row (n + 1)
none_more n = none_after n ∙ ap none_row (next n)

length_none : (n : ℕ) → length (none_row n) ≡ n
length_none zero = refl
length_none (suc n) = ap suc (length_none n)

pub length_one : (n i r : ℕ) → length (one_row n i r) ≡ n
length_one zero i r = refl
length_one (suc n) zero r = ap suc (length_none n)
length_one (suc n) (suc i) r = ap suc (length_one n i r)

-- ---- a row at the place of its item

same_put : (n i : ℕ) → slice_set (none_row n) i None ≡ none_row n
same_put zero i = refl
same_put (suc n) zero = refl
same_put (suc n) (suc i) = ap (λ (m : Map). None ∷ m) (same_put n i)

pub none_put : (m : Map) (n i : ℕ) → m ≡ none_row n → slice_set m i None ≡ none_row n
none_put m n i is = ap (λ m. slice_set m i None) is ∙ same_put n i

pub put_wide : (m : Map) (n i : ℕ) → slice_set m i None ≡ none_row n → length m ≡ n
put_wide m n i is = sym (length-set m i None) ∙ ap length is ∙ length_none n

pub put_twice : (m : Map) (i : ℕ) (a b : Option ℕ) → slice_set (slice_set m i a) i b ≡ slice_set m i b
put_twice [] i a b = refl
put_twice (x ∷ m) zero a b = refl
put_twice (x ∷ m) (suc i) a b = ap (λ (m : Map). x ∷ m) (put_twice m i a b)

pub row_put : (m : Map) (n i r : ℕ) → i < n → slice_set m i None ≡ none_row n → slice_set m i (Some r) ≡ one_row n i r
row_put m zero i r low e = absurd (omega (arith, low))
row_put [] (suc n) i r low e = absurd (clash e)
  where
    clash : {m : Map} → [] ≡ None ∷ m → ⊥
    clash e = cc
row_put (x ∷ m) (suc n) zero r low e =
    let rest : m ≡ none_row n = cc in
    ap (λ (m : Map). Some r ∷ m) rest
row_put (x ∷ m) (suc n) (suc i) r low e =
    let first : x ≡ None = cc in
    let rest : slice_set m i None ≡ none_row n = cc in
    ap₂ (λ (y : Option ℕ) (m : Map). y ∷ m) first (row_put m n i r (omega (arith, low)) rest)

-- ---- the rows of an item

rows_after : (n i r k : ℕ) → rows_of_item n i r (suc k) ≡ rows_of_item n i r k ++ one_row n i (r + k) ∷ []
rows_after n i r zero = ap (λ x. one_row n i x ∷ []) (let e : r ≡ r + 0 = omega arith in e)
rows_after n i r (suc k) = ap (λ ms. one_row n i r ∷ ms) (rows_after n i (suc r) k ∙ ap (λ x. rows_of_item n i (suc r) k ++ one_row n i x ∷ []) (let e : suc r + k ≡ r + suc k = omega arith in e))

-- one tuple more
pub tuple_more : (before now : List Tuple) (t : Tuple) (n i k : ℕ) → now ≡ before ++ t ∷ [] → maps_of before ≡ rows_of_item n i 0 k → map_of t ≡ one_row n i k → maps_of now ≡ rows_of_item n i 0 (k + 1)
tuple_more before now t n i k pushed are is =
    ap maps_of pushed ∙ map-append map_of before (t ∷ []) ∙ ap₂ (λ ms m. ms ++ m ∷ []) are is
    ∙ ap (λ x. rows_of_item n i 0 k ++ one_row n i x ∷ []) (let e : k ≡ 0 + k = omega arith in e)
    ∙ sym (rows_after n i 0 k) ∙ ap (rows_of_item n i 0) (next k)

-- the tuple of one number more
pub number_more : (before now : List Tuple) (t : Tuple) (n i : ℕ) (numbers : List ℕ) (k d : ℕ) → k < length numbers → now ≡ before ++ t ∷ [] → maps_of before ≡ map (one_row n i) (take k numbers) → map_of t ≡ one_row n i (get_or numbers k d)
    → maps_of now ≡ map (one_row n i) (take (k + 1) numbers)
number_more before now t n i numbers k d low pushed are is =
    ap maps_of pushed ∙ map-append map_of before (t ∷ []) ∙ ap₂ (λ ms m. ms ++ m ∷ []) are is
    ∙ sym (ap (map (one_row n i)) (take_more numbers k d low) ∙ map-append (one_row n i) (take k numbers) (get_or numbers k d ∷ []))

pub each_wide : (n i r k : ℕ) → Each (λ m. length m ≡ n) (rows_of_item n i r k)
each_wide n i r zero = tt
each_wide n i r (suc k) = (length_one n i r, each_wide n i (suc r) k)

pub rows_wide : (n i r k : ℕ) → All (λ m. length m ≡ n) (rows_of_item n i r k)
rows_wide n i r k = all_of_each (λ m. length m ≡ n) (rows_of_item n i r k) (each_wide n i r k)
