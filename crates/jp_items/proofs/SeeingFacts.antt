-- The item that has a relation.
use Rattle.std.proofs.Common.{◌≡◌, ◌∙◌, ap, sym, refl, ℕ, zero, suc, ◌+◌, ◌<◌, ◌≤◌, ◌^◌, Bool, true, false, List, [], ◌∷◌, ◌++◌, length, get_or, drop, map, add-one, arith}
use Rattle.std.specs.Prelude.{Option, Some, None, ◌==◌, if◌then◌else◌}
use Rattle.std.proofs.lemmas.Nat.Bits.{bit_at_above}
use Rattle.std.specs.List.{range_with_len}
use Rattle.std.proofs.lemmas.List.{at_drop_more, at_drop_all, map-append}
use Rattle.jp_query.specs.Meaning.{Env, has, with_rows}
use Rattle.jp_frame.specs.Maps.{Map, at}
use Rattle.jp_framed.specs.Environments.{env_from, row_at, source_at}
use Rattle.jp_items.specs.Seeing.{place_from, seen_at}

abbrev picked : Bool → ℕ → Option ℕ → Option ℕ
picked b i other = if b then Some i else other

-- the row of a relation at a map is seen at the relation's place
pub seen_by_place : (first : ℕ) (rels : List ℕ) (sources : List (List Env)) (outer : Env) (m : Map) (rel : ℕ) → env_from first rels sources outer m rel ≡ seen_at sources outer m (place_from first rels rel) rel
seen_by_place first [] sources outer m rel = refl
seen_by_place first (set ∷ more) sources outer m rel =
    ap (λ (o : Option _). if has set rel then row_at (source_at sources first) (at m first) rel else o) (seen_by_place (suc first) more sources outer m rel) ∙ turned (has set rel)
  where
    turned : (b : Bool) → (if b then row_at (source_at sources first) (at m first) rel else seen_at sources outer m (place_from (suc first) more rel) rel) ≡ seen_at sources outer m (picked b first (place_from (suc first) more rel)) rel
    turned true = refl
    turned false = refl

-- ---- the search for the place

pub next_place : (rels : List ℕ) (i d rel : ℕ) → i < length rels → place_from i (drop i rels) rel ≡ picked (has (get_or rels i d) rel) i (place_from (i + 1) (drop (i + 1) rels) rel)
next_place rels i d rel h = at_drop_more (λ rs. place_from i rs rel) rels i d h ∙ ap (λ k. picked (has (get_or rels i d) rel) i (place_from k (drop (i + 1) rels) rel)) (sym (add-one i))

pub this_place : (rels : List ℕ) (i d rel : ℕ) → i < length rels → has (get_or rels i d) rel ≡ true → place_from i (drop i rels) rel ≡ Some i
this_place rels i d rel h is = next_place rels i d rel h ∙ ap (λ b. picked b i (place_from (i + 1) (drop (i + 1) rels) rel)) is

pub passed_place : (rels : List ℕ) (i d rel : ℕ) → i < length rels → has (get_or rels i d) rel ≡ false → place_from i (drop i rels) rel ≡ place_from (i + 1) (drop (i + 1) rels) rel
passed_place rels i d rel h is = next_place rels i d rel h ∙ ap (λ b. picked b i (place_from (i + 1) (drop (i + 1) rels) rel)) is

pub no_place : (rels : List ℕ) (i rel : ℕ) → length rels ≤ i → place_from i (drop i rels) rel ≡ None
no_place rels i rel h = at_drop_all (λ rs. place_from i rs rel) rels i h

pub beyond : (set i : ℕ) → set < 2 ^ 64 → 64 ≤ i → false ≡ has set i
beyond set i low high = sym (ap (λ k. k == 1) (bit_at_above set 64 i low high))

-- one relation more
pub place_more : (rels : List ℕ) (rel : ℕ) → map (place_from 0 rels) (range_with_len 0 (rel + 1)) ≡ map (place_from 0 rels) (range_with_len 0 rel) ++ place_from 0 rels rel ∷ []
place_more rels rel = ap (map (place_from 0 rels)) (range_more 0 rel ∙ ap (λ k. range_with_len 0 rel ++ k ∷ []) (omega arith)) ∙ map-append (place_from 0 rels) (range_with_len 0 rel) (rel ∷ [])
  where
    range_more : (a n : ℕ) → range_with_len a (n + 1) ≡ range_with_len a n ++ (a + n) ∷ []
    range_more a n = ap (range_with_len a) (add-one n) ∙ further a n
      where
        further : (a n : ℕ) → range_with_len a (suc n) ≡ range_with_len a n ++ (a + n) ∷ []
        further a zero = ap (λ k. k ∷ []) (omega arith)
        further a (suc n) = ap (λ xs. a ∷ xs) (further (a + 1) n ∙ ap (λ k. range_with_len (a + 1) n ++ k ∷ []) (omega arith))

pub placed : (rels : List ℕ) (n rel : ℕ) (d : Option ℕ) → rel < n → get_or (map (place_from 0 rels) (range_with_len 0 n)) rel d ≡ place_from 0 rels rel
placed rels n rel d h = from 0 n rel d h ∙ ap (place_from 0 rels) (omega arith)
  where
    from : (a n rel : ℕ) (d : Option ℕ) → rel < n → get_or (map (place_from 0 rels) (range_with_len a n)) rel d ≡ place_from 0 rels (a + rel)
    from a zero rel d h = absurd (omega (arith, h))
    from a (suc n) zero d h = ap (place_from 0 rels) (omega arith)
    from a (suc n) (suc rel) d h = from (a + 1) n rel d (omega (arith, h)) ∙ ap (place_from 0 rels) (omega arith)
