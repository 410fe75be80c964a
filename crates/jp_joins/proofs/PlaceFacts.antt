-- The places of what passes a test, of maps above all.
use Rattle.std.proofs.Common.{◌≡◌, ◌∙◌, ap, sym, subst, refl, ℕ, zero, suc, ◌+◌, ◌<◌, ◌||◌, Bool, true, false, cond, List, [], ◌∷◌, ◌++◌, filter, length, get_or, take, arith, append_assoc}
use Rattle.std.specs.Prelude.{All, nat_eq}
use Rattle.std.specs.List.{list_any}
use Rattle.std.proofs.lemmas.List.{take_more, map-append, length-take-le, length-map}
use Rattle.std.proofs.lemmas.List.Folds.{list_any-append}
use Rattle.jp_induction.proofs.EachPart.{Each, all_of_each, each_append}
use Rattle.jp_frame.specs.Maps.{Map}
use Rattle.jp_joins.specs.Keys.{map_at, maps_at, once_if, places_where}
use Rattle.jp_joins.specs.Tuples.{map_of, maps_of}
use Rattle.jp_joins.specs.declared.tuples.Tuple.{Tuple}

module _ {X : Type 0} (p : X → Bool) where
  pub places_snoc : (i : ℕ) (xs : List X) (x : X) → places_where p i (xs ++ x ∷ []) ≡ places_where p i xs ++ once_if (p x) (i + length xs)
  places_snoc i [] x = alone (p x)
    where
      alone : (b : Bool) → once_if b i ++ [] ≡ once_if b (i + 0)
      alone true = ap (λ k. k ∷ []) (omega arith)
      alone false = refl
  places_snoc i (y ∷ xs) x = ap (λ ks. once_if (p y) i ++ ks) (places_snoc (suc i) xs x ∙ ap (λ k. places_where p (suc i) xs ++ once_if (p x) k) (omega arith))
      ∙ sym (append_assoc (once_if (p y) i) (places_where p (suc i) xs) (once_if (p x) (i + suc (length xs))))

module _ (p : Map → Bool) where
  -- one more tuple
  pub places_more : (ts : List Tuple) (i : ℕ) (d : Tuple) (before now : List ℕ) → i < length ts → before ≡ places_where p 0 (maps_of (take i ts)) → now ≡ before ++ once_if (p (map_of (get_or ts i d))) i
      → now ≡ places_where p 0 (maps_of (take (i + 1) ts))
  places_more ts i d before now h e f =
      let long : length (maps_of (take i ts)) ≡ i = length-map (take i ts) map_of ∙ length-take-le i ts (omega (arith, h)) in
      let at : i ≡ 0 + length (maps_of (take i ts)) = omega (arith, long) in
      f ∙ ap (λ ks. ks ++ once_if (p (map_of (get_or ts i d))) i) e
      ∙ ap (λ k. places_where p 0 (maps_of (take i ts)) ++ once_if (p (map_of (get_or ts i d))) k) at
      ∙ sym (places_snoc p 0 (maps_of (take i ts)) (map_of (get_or ts i d)))
      ∙ ap (places_where p 0) (sym (ap maps_of (take_more ts i d h) ∙ map-append map_of (take i ts) (get_or ts i d ∷ [])))

  -- they lie below the length
  below_once : (b : Bool) (i n : ℕ) → i < n → Each (λ k. k < n) (once_if b i)
  below_once true i n h = (h, tt)
  below_once false i n h = tt

  pub places_below : (i n : ℕ) (ms : List Map) → i + length ms ≡ n → Each (λ k. k < n) (places_where p i ms)
  places_below i n [] e = tt
  places_below i n (m ∷ ms) e = each_append (λ k. k < n) (once_if (p m) i) (places_where p (suc i) ms) (below_once (p m) i n (omega (arith, e))) (places_below (suc i) n ms (omega (arith, e)))

  -- the maps at them are those that pass
  here : (pre ms : List Map) (m : Map) → get_or (pre ++ m ∷ ms) (length pre) [] ≡ m
  here [] ms m = refl
  here (x ∷ pre) ms m = here pre ms m

  first_map : (b : Bool) (pre ms : List Map) (m : Map) (rest : List ℕ) (more : List Map) → maps_at (pre ++ m ∷ ms) rest ≡ more → maps_at (pre ++ m ∷ ms) (once_if b (length pre) ++ rest) ≡ cond b (m ∷ more) more
  first_map true pre ms m rest more e = ap (λ x. x ∷ maps_at (pre ++ m ∷ ms) rest) (here pre ms m) ∙ ap (λ xs. m ∷ xs) e
  first_map false pre ms m rest more e = e

  longer : (xs : List Map) (x : Map) → length (xs ++ x ∷ []) ≡ suc (length xs)
  longer [] x = refl
  longer (y ∷ xs) x = ap suc (longer xs x)

  at_places_from : (pre ms : List Map) → maps_at (pre ++ ms) (places_where p (length pre) ms) ≡ filter p ms
  at_places_from pre [] = refl
  at_places_from pre (m ∷ ms) = first_map (p m) pre ms m (places_where p (suc (length pre)) ms) (filter p ms)
      (subst (λ xs. maps_at xs (places_where p (suc (length pre)) ms) ≡ filter p ms) (append_assoc pre (m ∷ []) ms)
      (subst (λ n. maps_at ((pre ++ m ∷ []) ++ ms) (places_where p n ms) ≡ filter p ms) (longer pre m) (at_places_from (pre ++ m ∷ []) ms)))

  pub at_places : (ms : List Map) → maps_at ms (places_where p 0 ms) ≡ filter p ms
  at_places ms = at_places_from [] ms

  -- and so passes the map at each of them
  passes_once : (pre ms : List Map) (m : Map) (b : Bool) → p m ≡ b → Each (λ k. p (map_at (pre ++ m ∷ ms) k) ≡ true) (once_if b (length pre))
  passes_once pre ms m true e = (ap p (here pre ms m) ∙ e, tt)
  passes_once pre ms m false e = tt

  places_pass_from : (pre ms : List Map) → Each (λ k. p (map_at (pre ++ ms) k) ≡ true) (places_where p (length pre) ms)
  places_pass_from pre [] = tt
  places_pass_from pre (m ∷ ms) = each_append (λ k. p (map_at (pre ++ m ∷ ms) k) ≡ true) (once_if (p m) (length pre)) (places_where p (suc (length pre)) ms) (passes_once pre ms m (p m) refl)
      (subst (λ xs. Each (λ k. p (map_at xs k) ≡ true) (places_where p (suc (length pre)) ms)) (append_assoc pre (m ∷ []) ms)
      (subst (λ n. Each (λ k. p (map_at ((pre ++ m ∷ []) ++ ms) k) ≡ true) (places_where p n ms)) (longer pre m) (places_pass_from (pre ++ m ∷ []) ms)))

  pub places_pass : (ms : List Map) → All (λ k. p (map_at ms k) ≡ true) (places_where p 0 ms)
  places_pass ms = all_of_each (λ k. p (map_at ms k) ≡ true) (places_where p 0 ms) (places_pass_from [] ms)

  -- each map that passes has its place among them
  pub is_place : (i k : ℕ) (ms : List Map) → k < length ms → p (get_or ms k []) ≡ true → list_any (nat_eq (i + k)) (places_where p i ms) ≡ true
  is_place i k [] h e = absurd (omega (arith, h))
  is_place i zero (m ∷ ms) h e = ap (λ b. list_any (nat_eq (i + 0)) (once_if b i ++ places_where p (suc i) ms)) e ∙ ap (λ b. b || list_any (nat_eq (i + 0)) (places_where p (suc i) ms)) (same_number (i + 0) i (omega arith))
    where
      same_number : (a b : ℕ) → a ≡ b → nat_eq a b ≡ true
      same_number a b e = grind arith
  is_place i (suc k) (m ∷ ms) h e = list_any-append (nat_eq (i + suc k)) (once_if (p m) i) (places_where p (suc i) ms)
      ∙ ap (λ b. list_any (nat_eq (i + suc k)) (once_if (p m) i) || b) (ap (λ n. list_any (nat_eq n) (places_where p (suc i) ms)) (omega arith) ∙ is_place (suc i) k ms (omega (arith, h)) e)
      ∙ or_true (list_any (nat_eq (i + suc k)) (once_if (p m) i))
    where
      or_true : (b : Bool) → (b || true) ≡ true
      or_true true = refl
      or_true false = refl
