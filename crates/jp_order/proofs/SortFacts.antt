-- A stable sort of rows with keys is the sort of their lines.
use Rattle.std.proofs.Common.{◌≡◌, ◌∙◌, ap, sym, refl, ◌+◌, ◌<◌, Bool, true, false, cond, List, [], ◌∷◌, map, filter, length, get_or, arith}
use Rattle.std.specs.Cmp.{IsStrictWeakOrder}
use Rattle.std.specs.List.Sorted.{IsSortedBy, IsStableBy, ties}
use Rattle.std.proofs.lemmas.List.{get_or-map, length-map}
use Rattle.jp_query.specs.Ordering.{Row, Line, Direction, is_before, outputs_of, sorted}
use Rattle.jp_order.specs.Lines.{line_of}
use Rattle.jp_laws.proofs.UniqueSorts.{only_sort}
use Rattle.jp_laws.proofs.ValueLaws.{lines_weak}

abbrev pub Pair : Type 0
Pair = Row × Row

abbrev pub pair_before : List Direction → Pair → Pair → Bool
pair_before keys a b = is_before keys (line_of a) (line_of b)

pub pairs_weak : (keys : List Direction) → IsStrictWeakOrder (pair_before keys)
pairs_weak keys =
    let weak = lines_weak keys in
    record { one_way = λ x y. weak.one_way (line_of x) (line_of y); chain = λ x y z. weak.chain (line_of x) (line_of y) (line_of z) }

abbrev pair_of : Line → Pair
pair_of line = (line.outputs, line.keys)

under_map : (x : Pair) (xs : List Pair) (b : Bool) → map line_of (cond b (x ∷ xs) xs) ≡ cond b (line_of x ∷ map line_of xs) (map line_of xs)
under_map x xs true = refl
under_map x xs false = refl

lines_pass : (p : Line → Bool) (pairs : List Pair) → filter p (map line_of pairs) ≡ map line_of (filter (λ x. p (line_of x)) pairs)
lines_pass p [] = refl
lines_pass p (x ∷ xs) = ap (λ l. cond (p (line_of x)) (line_of x ∷ l) l) (lines_pass p xs) ∙ sym (under_map x (filter (λ y. p (line_of y)) xs) (p (line_of x)))

pub sorted_pairs : (keys : List Direction) (pairs others : List Pair) → IsSortedBy (pair_before keys) others → IsStableBy (pair_before keys) pairs others → map line_of others ≡ sorted keys (map line_of pairs)
sorted_pairs keys pairs others up stable = only_sort keys (map line_of pairs) (map line_of others) rises keeps
  where
    rises : IsSortedBy (is_before keys) (map line_of others)
    rises k d low h =
        let there : k + 1 < length others = omega (arith, h, length-map others line_of) in
        let here : k < length others = omega (arith, there) in
        ap (λ x. is_before keys x (get_or (map line_of others) k d)) (get_or-map line_of others (k + 1) (pair_of d) d there)
        ∙ ap (λ x. is_before keys (line_of (get_or others (k + 1) (pair_of d))) x) (get_or-map line_of others k (pair_of d) d here)
        ∙ up k (pair_of d) low there

    keeps : IsStableBy (is_before keys) (map line_of pairs) (map line_of others)
    keeps x = lines_pass (ties (is_before keys) x) others ∙ ap (map line_of) (stable (pair_of x)) ∙ sym (lines_pass (ties (is_before keys) x) pairs)

pub outputs_again : (pairs : List Pair) → map (λ (p : Pair). p.0) pairs ≡ map outputs_of (map line_of pairs)
outputs_again [] = refl
outputs_again (x ∷ xs) = ap (λ rows. x.0 ∷ rows) (outputs_again xs)
