-- The tuples of a side.
use Rattle.std.proofs.Common.{◌≡◌, ◌∙◌, ap, ap₂, refl, ℕ, zero, suc, ◌+◌, List, [], ◌∷◌, ◌++◌, arith}
use Rattle.std.specs.Prelude.{◌==◌}
use Rattle.std.proofs.lemmas.Bool.{ne_eqb}
use Rattle.std.proofs.lemmas.List.{map-append}
use Rattle.jp_frame.specs.Maps.{Map}
use Rattle.jp_frame.specs.Methods.{one_row, rows_of_item}
use Rattle.jp_joins.specs.Tuples.{map_of, maps_of}
use Rattle.jp_joins.specs.declared.tuples.Tuple.{Tuple}
use Rattle.jp_fulls.specs.Fulls.{place_if}

two_places : (side row : ℕ) → place_if (side == 0) row ∷ place_if (side == 1) row ∷ [] ≡ one_row 2 side row
two_places zero row = refl
two_places (suc zero) row = refl
two_places (suc (suc side)) row = ap₂ (λ b c. place_if b row ∷ place_if c row ∷ []) (ne_eqb (suc (suc side)) 0 (λ e. absurd (omega (arith, e)))) (ne_eqb (suc (suc side)) 1 (λ e. absurd (omega (arith, e))))

one_more : (side k n : ℕ) → rows_of_item 2 side k n ++ one_row 2 side (k + n) ∷ [] ≡ rows_of_item 2 side k (suc n)
one_more side k zero = ap (λ r. one_row 2 side r ∷ []) (omega arith)
one_more side k (suc n) = ap (λ (ms : List Map). one_row 2 side k ∷ ms) (ap (λ r. rows_of_item 2 side (suc k) n ++ one_row 2 side r ∷ []) (omega arith) ∙ one_more side (suc k) n)

pub tuple_more : (tuples more : List Tuple) (tuple : Tuple) (side row : ℕ) → more ≡ tuples ++ tuple ∷ [] → maps_of tuples ≡ rows_of_item 2 side 0 row → map_of tuple ≡ place_if (side == 0) row ∷ place_if (side == 1) row ∷ []
    → maps_of more ≡ rows_of_item 2 side 0 (row + 1)
tuple_more tuples more tuple side row e h k =
    let from_none : row ≡ 0 + row = omega arith in
    let next : suc row ≡ row + 1 = omega arith in
    ap maps_of e ∙ map-append map_of tuples (tuple ∷ [])
    ∙ ap₂ (λ ms (m : Map). ms ++ m ∷ []) h (k ∙ two_places side row ∙ ap (one_row 2 side) from_none)
    ∙ one_more side 0 row ∙ ap (rows_of_item 2 side 0) next
