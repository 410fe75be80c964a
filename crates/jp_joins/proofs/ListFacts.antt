-- The lists that a table lends for some tuples, one for each.
use Rattle.std.proofs.Common.{◌≡◌, ◌∙◌, ap, ap₂, sym, subst, refl, ◌+◌, ◌<◌, ℕ, length, get_or, map, take, List, [], ◌∷◌, ◌++◌}
use Rattle.std.specs.Borrow.{Bor}
use Rattle.std.proofs.lemmas.List.{get_or-map, length-map, map-append, take_more}
use Rattle.jp_base.specs.declared.values.Value.{Value}
use Rattle.jp_query.specs.declared.Expr.{Expr}
use Rattle.jp_joins.specs.Keys.{lists_of, values_at}
use Rattle.jp_joins.specs.Meant.{Meant, value_at}
use Rattle.jp_joins.specs.Tuples.{map_of, maps_of}
use Rattle.jp_joins.specs.declared.tuples.Tuple.{Tuple}

module _ {X : Type 0} (meant : Meant) (side : Expr) (f : Value → List X) where
  abbrev at_tuple : Tuple → List X
  at_tuple t = f (value_at meant (map_of t) side)

  of_tuples : (ts : List Tuple) → map f (values_at meant side (maps_of ts)) ≡ map at_tuple ts
  of_tuples [] = refl
  of_tuples (t ∷ ts) = ap (λ ls. at_tuple t ∷ ls) (of_tuples ts)

  -- one more tuple
  pub list_more : (ts : List Tuple) (i : ℕ) (d : Tuple) (ls : List (Bor (List X))) (l : Bor (List X)) → i < length ts → lists_of ls ≡ map f (values_at meant side (maps_of (take i ts)))
      → l.now ≡ f (value_at meant (map_of (get_or ts i d)) side) → lists_of (ls ++ l ∷ []) ≡ map f (values_at meant side (maps_of (take (i + 1) ts)))
  list_more ts i d ls l h are is =
      map-append (λ (l : Bor (List X)). l.now) ls (l ∷ [])
      ∙ ap₂ (λ (xs : List (List X)) (x : List X). xs ++ x ∷ []) (are ∙ of_tuples (take i ts)) is
      ∙ sym (map-append at_tuple (take i ts) (get_or ts i d ∷ []))
      ∙ ap (map at_tuple) (sym (take_more ts i d h))
      ∙ sym (of_tuples (take (i + 1) ts))

  -- all tuples
  module _ (ts : List Tuple) (ls : List (Bor (List X))) (are : lists_of ls ≡ map f (values_at meant side (maps_of ts))) where
    pub as_long : length ls ≡ length ts
    as_long = sym (length-map ls (λ (l : Bor (List X)). l.now)) ∙ ap length (are ∙ of_tuples ts) ∙ length-map ts at_tuple

    pub list_of : (i : ℕ) (d : Tuple) (l : Bor (List X)) → i < length ts → (get_or ls i l).now ≡ f (value_at meant (map_of (get_or ts i d)) side)
    list_of i d l h =
        sym (get_or-map (λ (l : Bor (List X)). l.now) ls i l [] (subst (λ n. i < n) (sym as_long) h))
        ∙ ap (λ xs. get_or xs i []) (are ∙ of_tuples ts)
        ∙ get_or-map at_tuple ts i d [] h
