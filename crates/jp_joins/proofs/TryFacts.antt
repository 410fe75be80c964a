-- Tuples with equal keys can be tried without the equality of the key.
use Rattle.std.proofs.Common.{◌≡◌, ◌∙◌, ap, sym, subst, ℕ, ◌<◌, true, filter, length, get_or, List, []}
use Rattle.std.specs.Prelude.{All}
use Rattle.std.proofs.lemmas.List.{get_or-map}
use Rattle.std.proofs.lemmas.List.Elements.{Contains-get_or}
use Rattle.jp_base.specs.Values.{are_equal}
use Rattle.jp_base.specs.declared.values.Value.{Value}
use Rattle.jp_facts.proofs.Members.{In, from_filter, from_in, in_map, to_in}
use Rattle.jp_query.specs.declared.Expr.{Expr}
use Rattle.jp_problem.specs.declared.types.Step.{Step}
use Rattle.jp_frame.specs.Maps.{both}
use Rattle.jp_joins.specs.Conditions.{CanJoin, CanLookUpBy, CanPair}
use Rattle.jp_joins.specs.KeyPlaces.{IsKeyPlace}
use Rattle.jp_joins.specs.Keys.{has_value, map_at, places_where, tuple_has}
use Rattle.jp_joins.specs.Meant.{Meant, value_at}
use Rattle.jp_joins.specs.Tuples.{map_of, maps_of}
use Rattle.jp_joins.specs.Working.{CanTry, CanTryAll}
use Rattle.jp_joins.specs.declared.tuples.Tuple.{Tuple}
use Rattle.jp_joins.proofs.JoinFacts.{can_pair_all, no_tuple}
use Rattle.jp_joins.proofs.KeyFacts.{equal_turned}
use Rattle.jp_joins.proofs.KeyPlaceFacts.{key_known}
use Rattle.jp_joins.proofs.LookFacts.{sides_at_pair}
use Rattle.jp_joins.proofs.PlaceFacts.{places_pass}
use Rattle.jp_joins.proofs.RightFacts.{looked_below}

module _ (meant : Meant) (asked : Step) (first second : Expr) (lefts rights : List Tuple) (can : CanJoin meant asked (maps_of lefts) (maps_of rights))
    (look : CanLookUpBy meant first second (maps_of lefts) (maps_of rights)) (known : ℕ) (key : IsKeyPlace meant.on first second known) where
  pub can_try : (k : ℕ) (d b : Tuple) → k < length lefts → In b rights → are_equal (value_at meant (map_of (get_or lefts k d)) first) (value_at meant (map_of b) second) ≡ true → CanTry meant known (map_of (get_or lefts k d)) (map_of b)
  can_try k d b low there equal =
      let a = map_of (get_or lefts k d) in
      let at = from_in b rights there in
      record {
        pair = subst (λ (t : Tuple). CanPair meant a (map_of t)) at.2 (can_pair_all meant asked lefts rights can k d low at.0 b at.1);
        known = key_known meant (both a (map_of b)) first second look.first_plain look.second_plain (sides_at_pair meant first second lefts rights look k d (map_of b) low (in_map map_of b rights there) ∙ equal) meant.on known key;
      }

  -- the right tuples that have the key of a left one
  pub looked_tries : (k : ℕ) (d : Tuple) (v : Value) (ts : List Tuple) → k < length lefts → v ≡ value_at meant (map_of (get_or lefts k d)) first → ts ≡ filter (tuple_has meant second v) rights → CanTryAll meant known (get_or lefts k d) ts
  looked_tries k d v ts low is are j e inside =
      let b = get_or ts j e in
      let there = from_filter (tuple_has meant second v) b rights (subst (In b) are (to_in b ts (Contains-get_or ts j e inside))) in
      can_try k d b low there.1 (ap (λ u. are_equal u (value_at meant (map_of b) second)) (sym is) ∙ there.0)

  -- the places of the left tuples that have the key of a right one
  pub places_try : (j : ℕ) (d : Tuple) (h : j < length rights) (v : Value) (is : v ≡ value_at meant (map_of (get_or rights j d)) second) (places : List ℕ) (are : places ≡ places_where (has_value meant first v) 0 (maps_of lefts))
      → All (λ place. CanTry meant known (map_at (maps_of lefts) place) (map_of (get_or rights j d))) places
  places_try j d h v is places are k e inside =
      let b = get_or rights j d in
      let place = get_or places k e in
      let low = looked_below meant first second lefts rights look j d h v is places are k e inside in
      let at = get_or-map map_of lefts place no_tuple [] low in
      let passes = subst (All (λ i. has_value meant first v (map_at (maps_of lefts) i) ≡ true)) (sym are) (places_pass (has_value meant first v) (maps_of lefts)) k e inside in
      subst (λ m. CanTry meant known m (map_of b)) (sym at) (can_try place no_tuple b low (to_in b rights (Contains-get_or rights j d h))
      (equal_turned (value_at meant (map_of (get_or lefts place no_tuple)) first) (value_at meant (map_of b) second)
      ∙ ap (λ u. are_equal u (value_at meant (map_of (get_or lefts place no_tuple)) first)) (sym is)
      ∙ ap (λ m. are_equal v (value_at meant m first)) (sym at) ∙ passes))
