-- What one more tuple adds to the list of a step.
use Rattle.std.proofs.Common.{◌≡◌, ◌∙◌, ap, ap₂, sym, refl, ℕ, ◌+◌, ◌<◌, Bool, true, false, cond, ◌||◌, List, [], ◌∷◌, ◌++◌, map, filter, length, get_or, take, append-nil}
use Rattle.std.specs.List.{list_any, flat_map}
use Rattle.std.proofs.lemmas.List.{take_more, map-append}
use Rattle.std.proofs.lemmas.List.Elements.{filter-append}
use Rattle.std.proofs.lemmas.List.Folds.{list_any-append}
use Rattle.std.proofs.lemmas.Grind.{flat_map-append}
use Rattle.jp_query.specs.declared.JoinKind.{JoinKind}
use Rattle.jp_query.specs.declared.JoinKind.TheVariants as join
use Rattle.jp_frame.specs.Maps.{Map, both}
use Rattle.jp_frame.specs.Methods.{matches, is_matched, left_rows}
use Rattle.jp_joins.specs.Meant.{left_gives, kept}
use Rattle.jp_joins.specs.Tuples.{map_of, maps_of}
use Rattle.jp_joins.specs.Working.{kept_by}
use Rattle.jp_joins.specs.declared.tuples.Tuple.{Tuple}

module _ {X : Type 0} where
  pub all_pass : (xs : List X) → filter (λ (x : X). true) xs ≡ xs
  all_pass [] = refl
  all_pass (x ∷ xs) = ap (λ ys. x ∷ ys) (all_pass xs)

module _ (keep test : Map → Bool) where
  -- the list of the step with one more left tuple
  pub left_next : (gives : Map → List Map) (lefts : List Tuple) (i : ℕ) (d : Tuple) (before now : List Map) → i < length lefts
      → before ≡ filter keep (flat_map gives (maps_of (take i lefts))) → now ≡ before ++ filter keep (gives (map_of (get_or lefts i d)))
      → now ≡ filter keep (flat_map gives (maps_of (take (i + 1) lefts)))
  left_next gives lefts i d before now h e f =
      let a = map_of (get_or lefts i d) in
      f ∙ ap (λ ms. ms ++ filter keep (gives a)) e ∙ sym (filter-append keep (flat_map gives (maps_of (take i lefts))) (gives a))
      ∙ ap (λ ms. filter keep (flat_map gives (maps_of (take i lefts)) ++ ms)) (sym (append-nil (gives a)))
      ∙ ap (filter keep) (sym (flat_map-append gives (maps_of (take i lefts)) (a ∷ [])))
      ∙ ap (λ ms. filter keep (flat_map gives ms)) (sym (ap maps_of (take_more lefts i d h) ∙ map-append map_of (take i lefts) (get_or lefts i d ∷ [])))

module _ (test : Map → Bool) where
  pub matched_more : (rights : List Tuple) (i : ℕ) (d : Tuple) (a : Map) (any : Bool) → i < length rights
      → any ≡ is_matched test (maps_of (take i rights)) a → (any || test (both a (map_of (get_or rights i d)))) ≡ is_matched test (maps_of (take (i + 1) rights)) a
  matched_more rights i d a any h e =
      let b = map_of (get_or rights i d) in
      ap₂ (λ (x y : Bool). x || y) e (sym (or_false (test (both a b))))
      ∙ sym (list_any-append test (map (both a) (maps_of (take i rights))) (both a b ∷ []))
      ∙ ap (list_any test) (sym (map-append (both a) (maps_of (take i rights)) (b ∷ [])) ∙ ap (map (both a)) (sym (ap maps_of (take_more rights i d h) ∙ map-append map_of (take i rights) (get_or rights i d ∷ []))))
    where
      or_false : (b : Bool) → (b || false) ≡ b
      or_false true = refl
      or_false false = refl

  pick_found : (a m : Map) (rest : List Map) (b more : Bool) → (b || more) ≡ true → (more ≡ true → left_rows a rest ≡ rest) → left_rows a (cond b (m ∷ rest) rest) ≡ cond b (m ∷ rest) rest
  pick_found a m rest true more e later = refl
  pick_found a m rest false more e later = later e

  found_left : (a : Map) (ms : List Map) → list_any test ms ≡ true → left_rows a (filter test ms) ≡ filter test ms
  found_left a [] e = absurd (cc)
  found_left a (m ∷ ms) e = pick_found a m (filter test ms) (test m) (list_any test ms) e (λ h. found_left a ms h)

  pick_none : (m : Map) (rest : List Map) (b more : Bool) → (b || more) ≡ false → (more ≡ false → rest ≡ []) → cond b (m ∷ rest) rest ≡ []
  pick_none m rest true more e later = absurd (cc)
  pick_none m rest false more e later = later e

  none_left : (ms : List Map) → list_any test ms ≡ false → filter test ms ≡ []
  none_left [] e = refl
  none_left (m ∷ ms) e = pick_none m (filter test ms) (test m) (list_any test ms) e (λ h. none_left ms h)

  pub left_matched : (right : List Map) (a : Map) → is_matched test right a ≡ true → left_gives join.Left test right a ≡ matches test right a
  left_matched right a e = found_left a (map (both a) right) e

  pub left_unmatched : (right : List Map) (a : Map) → is_matched test right a ≡ false → matches test right a ≡ []
  left_unmatched right a e = none_left (map (both a) right) e

  pub left_unmatched_gives : (right : List Map) (a : Map) → is_matched test right a ≡ false → left_gives join.Left test right a ≡ a ∷ []
  left_unmatched_gives right a e = ap (left_rows a) (left_unmatched right a e)

-- an inner step keeps all, a step by a join what its filters keep
pub kept_is : (kind : JoinKind) (test : Map → Bool) (rows : List Map) → kept kind test rows ≡ filter (λ m. kept_by kind (test m)) rows
kept_is join.Inner test rows = sym (all_pass rows)
kept_is join.Left test rows = refl
kept_is join.Right test rows = refl
kept_is join.Full test rows = refl
kept_is join.Semi test rows = refl
kept_is join.Anti test rows = refl

module _ (keep test : Map → Bool) (right : List Map) (a : Map) (kind : JoinKind) (is : join.Left ≡ kind) where
  -- what a left tuple of a left join gives, with and without a match
  pub left_found : (old now : List Map) → true ≡ is_matched test right a → now ≡ old ++ filter keep (matches test right a) → now ≡ old ++ filter keep (left_gives kind test right a)
  left_found old now any e = e ∙ ap (λ ms. old ++ filter keep ms) (sym (left_matched test right a (sym any)) ∙ ap (λ k. left_gives k test right a) is)

  pub left_alone : (old mid now : List Map) → false ≡ is_matched test right a → mid ≡ old ++ filter keep (matches test right a) → now ≡ mid ++ filter keep (a ∷ []) → now ≡ old ++ filter keep (left_gives kind test right a)
  left_alone old mid now any e f =
      f ∙ ap (λ ms. ms ++ filter keep (a ∷ [])) (e ∙ ap (λ ms. old ++ filter keep ms) (left_unmatched test right a (sym any)) ∙ append-nil old)
      ∙ ap (λ ms. old ++ filter keep ms) (sym (left_unmatched_gives test right a (sym any)) ∙ ap (λ k. left_gives k test right a) is)
