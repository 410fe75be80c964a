-- EXISTS and IN depend on the rows only as a bag.
use Rattle.std.proofs.Common.{◌≡◌, refl, List, [], ◌∷◌, map, fold, length, arith}
use Rattle.std.specs.Prelude.{All}
use Rattle.std.specs.List.Sorted.{IsPermutation}
use Rattle.std.proofs.lemmas.List.Elements.{All-cons, All-head, All-tail}
use Rattle.std.proofs.lemmas.List.Sorted.{IsPermutation-sym, IsPermutation-map, length_permutation}
use Rattle.std.proofs.lemmas.Map.Views.{All-map-IsPermutation}
use Rattle.jp_base.specs.declared.truth.Truth.{Truth}
use Rattle.jp_base.specs.declared.truth.Truth.TheVariants.{True, False, Unknown}
use Rattle.jp_base.specs.declared.values.Value.{Value}
use Rattle.jp_base.specs.Truth.{or_of}
use Rattle.jp_query.specs.declared.CmpOp.TheVariants as cmp
use Rattle.jp_query.specs.Operators.{among, compared}
use Rattle.jp_query.specs.Meaning.{Row, first_of, is_row}

or_self : (a : Truth) → or_of a a ≡ a
or_self False = refl
or_self Unknown = refl
or_self True = refl

or_false : (a : Truth) → or_of False a ≡ a
or_false False = refl
or_false Unknown = refl
or_false True = refl

right_part : (a x f : Truth) → or_of (or_of a x) f ≡ f → or_of x f ≡ f
right_part False False False h0 = refl
right_part False False Unknown h0 = refl
right_part False False True h0 = refl
right_part False Unknown False h0 = cc
right_part False Unknown Unknown h0 = refl
right_part False Unknown True h0 = refl
right_part False True False h0 = cc
right_part False True Unknown h0 = cc
right_part False True True h0 = refl
right_part Unknown False False h0 = refl
right_part Unknown False Unknown h0 = refl
right_part Unknown False True h0 = refl
right_part Unknown Unknown False h0 = cc
right_part Unknown Unknown Unknown h0 = refl
right_part Unknown Unknown True h0 = refl
right_part Unknown True False h0 = cc
right_part Unknown True Unknown h0 = cc
right_part Unknown True True h0 = refl
right_part True False False h0 = refl
right_part True False Unknown h0 = refl
right_part True False True h0 = refl
right_part True Unknown False h0 = cc
right_part True Unknown Unknown h0 = refl
right_part True Unknown True h0 = refl
right_part True True False h0 = cc
right_part True True Unknown h0 = cc
right_part True True True h0 = refl

left_part : (a x f : Truth) → or_of (or_of a x) f ≡ f → or_of a f ≡ f
left_part False False False h0 = refl
left_part False False Unknown h0 = refl
left_part False False True h0 = refl
left_part False Unknown False h0 = refl
left_part False Unknown Unknown h0 = refl
left_part False Unknown True h0 = refl
left_part False True False h0 = refl
left_part False True Unknown h0 = refl
left_part False True True h0 = refl
left_part Unknown False False h0 = cc
left_part Unknown False Unknown h0 = refl
left_part Unknown False True h0 = refl
left_part Unknown Unknown False h0 = cc
left_part Unknown Unknown Unknown h0 = refl
left_part Unknown Unknown True h0 = refl
left_part Unknown True False h0 = cc
left_part Unknown True Unknown h0 = refl
left_part Unknown True True h0 = refl
left_part True False False h0 = cc
left_part True False Unknown h0 = cc
left_part True False True h0 = refl
left_part True Unknown False h0 = cc
left_part True Unknown Unknown h0 = cc
left_part True Unknown True h0 = refl
left_part True True False h0 = cc
left_part True True Unknown h0 = cc
left_part True True True h0 = refl

join_part : (a x f : Truth) → or_of a f ≡ f → or_of x f ≡ f → or_of (or_of a x) f ≡ f
join_part False False False h0 h1 = refl
join_part False False Unknown h0 h1 = refl
join_part False False True h0 h1 = refl
join_part False Unknown False h0 h1 = cc
join_part False Unknown Unknown h0 h1 = refl
join_part False Unknown True h0 h1 = refl
join_part False True False h0 h1 = cc
join_part False True Unknown h0 h1 = cc
join_part False True True h0 h1 = refl
join_part Unknown False False h0 h1 = cc
join_part Unknown False Unknown h0 h1 = refl
join_part Unknown False True h0 h1 = refl
join_part Unknown Unknown False h0 h1 = cc
join_part Unknown Unknown Unknown h0 h1 = refl
join_part Unknown Unknown True h0 h1 = refl
join_part Unknown True False h0 h1 = cc
join_part Unknown True Unknown h0 h1 = cc
join_part Unknown True True h0 h1 = refl
join_part True False False h0 h1 = cc
join_part True False Unknown h0 h1 = cc
join_part True False True h0 h1 = refl
join_part True Unknown False h0 h1 = cc
join_part True Unknown Unknown h0 h1 = cc
join_part True Unknown True h0 h1 = refl
join_part True True False h0 h1 = cc
join_part True True Unknown h0 h1 = cc
join_part True True True h0 h1 = refl

one_truth : (f g : Truth) → or_of g f ≡ f → or_of f g ≡ g → f ≡ g
one_truth False False h0 h1 = refl
one_truth False Unknown h0 h1 = cc
one_truth False True h0 h1 = cc
one_truth Unknown False h0 h1 = cc
one_truth Unknown Unknown h0 h1 = refl
one_truth Unknown True h0 h1 = cc
one_truth True False h0 h1 = cc
one_truth True Unknown h0 h1 = cc
one_truth True True h0 h1 = refl

abbrev IsBelow : Truth → Truth → Type 0
IsBelow f t = or_of t f ≡ f

start_below : (a : Truth) (xs : List Truth) → or_of a (fold or_of a xs) ≡ fold or_of a xs
start_below a [] = or_self a
start_below a (x ∷ xs) = left_part a x (fold or_of (or_of a x) xs) (start_below (or_of a x) xs)

each_below : (a : Truth) (xs : List Truth) → All (IsBelow (fold or_of a xs)) xs
each_below a [] = none_below
  where
    none_below : All (IsBelow a) []
    none_below k d low = absurd (omega arith)
each_below a (x ∷ xs) = All-cons (IsBelow (fold or_of (or_of a x) xs)) x xs (right_part a x (fold or_of (or_of a x) xs) (start_below (or_of a x) xs)) (each_below (or_of a x) xs)

all_below : (a f : Truth) (xs : List Truth) → or_of a f ≡ f → All (IsBelow f) xs → or_of (fold or_of a xs) f ≡ f
all_below a f [] h each = h
all_below a f (x ∷ xs) h each = all_below (or_of a x) f xs (join_part a x f h (All-head (IsBelow f) x xs each)) (All-tail (IsBelow f) x xs each)

up : (x : Value) (vs ws : List Value) → IsPermutation vs ws → or_of (among x ws) (among x vs) ≡ among x vs
up x vs ws p = all_below False (among x vs) (map (compared cmp.Eq x) ws) (or_false (among x vs)) (All-map-IsPermutation (compared cmp.Eq x) (IsBelow (among x vs)) vs ws p (each_below False (map (compared cmp.Eq x) vs)))

among_bag : (x : Value) (vs ws : List Value) → IsPermutation vs ws → among x vs ≡ among x ws
among_bag x vs ws p = one_truth (among x vs) (among x ws) (up x vs ws p) (up x ws vs (IsPermutation-sym vs ws p))

rows_by_length : (xs ys : List Row) → length ys ≡ length xs → is_row xs ≡ is_row ys
rows_by_length [] [] e = refl
rows_by_length [] (y ∷ ys) e = absurd (omega (arith, e))
rows_by_length (x ∷ xs) [] e = absurd (omega (arith, e))
rows_by_length (x ∷ xs) (y ∷ ys) e = refl

pub exists_bag : (xs ys : List Row) → IsPermutation xs ys → is_row xs ≡ is_row ys
exists_bag xs ys p = rows_by_length xs ys (length_permutation xs ys p)

pub in_bag : (x : Value) (xs ys : List Row) → IsPermutation xs ys → among x (map first_of xs) ≡ among x (map first_of ys)
in_bag x xs ys p = among_bag x (map first_of xs) (map first_of ys) (IsPermutation-map first_of xs ys p)
