-- The list of a left join from its right side.
use Rattle.std.proofs.Common.{◌≡◌, ◌∙◌, ap, ap₂, sym, subst, refl, ℕ, ◌+◌, ◌<◌, inl, inr, Bool, true, false, cond, not, ◌&&◌, ◌||◌, List, [], ◌∷◌, ◌++◌, filter, length, get_or, take, arith, append_assoc}
use Rattle.std.specs.Prelude.{nat_eq, All, Contains}
use Rattle.std.specs.List.{list_any, flat_map}
use Rattle.std.proofs.lemmas.List.{take_more, map-append, get_or-map, length-map}
use Rattle.std.proofs.lemmas.List.Elements.{Contains-get_or, filter-append}
use Rattle.jp_base.specs.Values.{are_equal}
use Rattle.jp_base.specs.declared.values.Value.{Value}
use Rattle.jp_facts.proofs.Members.{In, from_in, to_in}
use Rattle.jp_induction.proofs.EachPart.{all_of_each}
use Rattle.jp_query.specs.declared.Expr.{Expr}
use Rattle.jp_query.specs.declared.JoinKind.{JoinKind}
use Rattle.jp_query.specs.declared.JoinKind.TheVariants as join
use Rattle.jp_frame.specs.Maps.{Map, both}
use Rattle.jp_frame.specs.Methods.{is_matched, matches_to, right_first}
use Rattle.jp_joins.specs.Conditions.{CanLookUpBy}
use Rattle.jp_joins.specs.Keys.{has_value, map_at, maps_at, once_if, places_where}
use Rattle.jp_joins.specs.Meant.{Meant, is_match, list_holds, right_list, value_at}
use Rattle.jp_joins.specs.Tuples.{map_of, maps_of}
use Rattle.jp_joins.specs.Working.{AreMarks, Marks, is_kept, is_not, kept_by, mark_at}
use Rattle.jp_joins.specs.declared.tuples.Tuple.{Tuple}
use Rattle.jp_joins.proofs.KeyFacts.{equal_turned}
use Rattle.jp_joins.proofs.LookFacts.{key_of_match, no_true}
use Rattle.jp_joins.proofs.PlaceFacts.{at_places, is_place, places_below}
use Rattle.jp_joins.proofs.StepFacts.{matched_more}

-- ---- the matches of a right tuple with some left ones

module _ (test : Map → Bool) (b : Map) (same : Map → Bool) where
  pick_to : (a : Map) (found all : List Map) (s : Bool) → (test (both a b) ≡ true → s ≡ true) → matches_to test found b ≡ matches_to test all b → matches_to test (cond s (a ∷ found) found) b ≡ matches_to test (a ∷ all) b
  pick_to a found all true h e = ap (λ xs. cond (test (both a b)) (both a b ∷ xs) xs) e
  pick_to a found all false h e = e ∙ sym (ap (λ t. cond t (both a b ∷ matches_to test all b) (matches_to test all b)) (no_true (test (both a b)) h))

  to_found : (left : List Map) → ((a : Map) → In a left → test (both a b) ≡ true → same a ≡ true) → matches_to test (filter same left) b ≡ matches_to test left b
  to_found [] h = refl
  to_found (a ∷ left) h = pick_to a (filter same left) left (same a) (h a (inl refl)) (to_found left (λ x p. h x (inr p)))

-- ---- unmatched left tuples

pub unmatched_more : (keep p : Map → Bool) (ts : List Tuple) (i : ℕ) (d : Tuple) (mark : Bool) (before now old : List Map) → i < length ts → mark ≡ p (map_at (maps_of ts) i)
    → before ≡ old ++ filter keep (filter (is_not p) (maps_of (take i ts))) → now ≡ before ++ filter keep (once_if (not mark) (map_of (get_or ts i d)))
    → now ≡ old ++ filter keep (filter (is_not p) (maps_of (take (i + 1) ts)))
unmatched_more keep p ts i d mark before now old h is e f =
    let m = map_of (get_or ts i d) in
    let at : map_at (maps_of ts) i ≡ m = get_or-map map_of ts i d [] h in
    f ∙ ap₂ (λ (xs : List Map) (q : Bool). xs ++ filter keep (once_if (not q) m)) e (is ∙ ap p at)
    ∙ append_assoc old (filter keep (filter (is_not p) (maps_of (take i ts)))) (filter keep (once_if (is_not p m) m))
    ∙ ap (λ xs. old ++ xs) (ap (λ xs. filter keep (filter (is_not p) (maps_of (take i ts))) ++ filter keep xs) (one_kept (is_not p m) m)
    ∙ sym (filter-append keep (filter (is_not p) (maps_of (take i ts))) (filter (is_not p) (m ∷ [])))
    ∙ ap (filter keep) (sym (filter-append (is_not p) (maps_of (take i ts)) (m ∷ [])) ∙ ap (filter (is_not p)) (sym (ap maps_of (take_more ts i d h) ∙ map-append map_of (take i ts) (get_or ts i d ∷ [])))))
  where
    one_kept : (q : Bool) (x : Map) → once_if q x ≡ cond q (x ∷ []) []
    one_kept true x = refl
    one_kept false x = refl

-- ---- the right tuples that are looked up

known : (any t : Bool) → (t ≡ true → any ≡ true) → (any && t) ≡ t
known true t h = refl
known false true h = h refl
known false false h = refl

module _ (meant : Meant) (first second : Expr) (lefts rights : List Tuple) (look : CanLookUpBy meant first second (maps_of lefts) (maps_of rights)) (j : ℕ) (d : Tuple) (h : j < length rights)
    (v : Value) (is : v ≡ value_at meant (map_of (get_or rights j d)) second) (places : List ℕ) (are : places ≡ places_where (has_value meant first v) 0 (maps_of lefts)) where
  abbrev b : Map
  b = map_of (get_or rights j d)

  abbrev test : Map → Bool
  test = is_match meant

  abbrev same : Map → Bool
  same = has_value meant first v

  right_there : In b (maps_of rights)
  right_there = to_in b (maps_of rights) (subst (Contains (maps_of rights)) (get_or-map map_of rights j d [] h) (Contains-get_or (maps_of rights) j [] (omega (arith, h, length-map rights map_of))))

  same_at : (i : ℕ) (e : Tuple) → i < length lefts → test (both (map_of (get_or lefts i e)) b) ≡ true → same (map_of (get_or lefts i e)) ≡ true
  same_at i e low match =
      let a = map_of (get_or lefts i e) in
      ap (λ u. are_equal u (value_at meant a first)) is ∙ equal_turned (value_at meant b second) (value_at meant a first) ∙ key_of_match meant first second lefts rights look i e b low right_there match

  same_in : (a : Map) → In a (maps_of lefts) → test (both a b) ≡ true → same a ≡ true
  same_in a there =
      let c = from_in a (maps_of lefts) there in
      let low : c.0 < length lefts = omega (arith, c.1, length-map lefts map_of) in
      let at : map_of (get_or lefts c.0 d) ≡ a = sym (get_or-map map_of lefts c.0 d a low) ∙ c.2 in
      subst (λ m. test (both m b) ≡ true → same m ≡ true) at (same_at c.0 d low)

  -- the left tuples at the places are all that match
  pub to_looked : matches_to test (maps_at (maps_of lefts) places) b ≡ matches_to test (maps_of lefts) b
  to_looked = ap (λ ks. matches_to test (maps_at (maps_of lefts) ks) b) are ∙ ap (λ ms. matches_to test ms b) (at_places same (maps_of lefts)) ∙ to_found test b same (maps_of lefts) same_in

  pub looked_below : All (λ k. k < length lefts) places
  looked_below = subst (All (λ k. k < length lefts)) (sym are) (all_of_each (λ k. k < length lefts) (places_where same 0 (maps_of lefts)) (places_below same 0 (length lefts) (maps_of lefts) (omega (arith, length-map lefts map_of))))

  any_place : (i : ℕ) → i < length (maps_of lefts) → test (both (map_at (maps_of lefts) i) b) ≡ true → list_any (nat_eq i) places ≡ true
  any_place i low match =
      let low' : i < length lefts = omega (arith, low, length-map lefts map_of) in
      let at = get_or-map map_of lefts i d [] low' in
      let passes = subst (λ m. test (both m b) ≡ true → same m ≡ true) (sym at) (same_at i d low') match in
      let zero_is : 0 + i ≡ i = omega arith in
      ap (list_any (nat_eq i)) are ∙ subst (λ n. list_any (nat_eq n) (places_where same 0 (maps_of lefts)) ≡ true) zero_is (is_place same 0 i (maps_of lefts) low passes)

  pub marks_looked : (old now : List Bool) → AreMarks (is_matched test (maps_of (take j rights))) (maps_of lefts) old → Marks test (maps_of lefts) b places old now → AreMarks (is_matched test (maps_of (take (j + 1) rights))) (maps_of lefts) now
  marks_looked old now before marks i low =
      let a = map_at (maps_of lefts) i in
      marks i low
      ∙ ap (λ x. mark_at old i || x) (known (list_any (nat_eq i) places) (test (both a b)) (any_place i low))
      ∙ matched_more test rights j d a (mark_at old i) h (before i low)

-- ---- the whole list

pub right_whole : (meant : Meant) (lefts rights : List Map) (before now : List Map) → meant.kind ≡ join.Left
    → before ≡ filter (is_kept meant) (flat_map (matches_to (is_match meant) lefts) rights)
    → now ≡ before ++ filter (is_kept meant) (filter (is_not (is_matched (is_match meant) rights)) lefts)
    → now ≡ right_list meant lefts rights
right_whole meant lefts rights before now kind e f =
    f ∙ ap (λ ms. ms ++ filter (is_kept meant) (filter (is_not (is_matched (is_match meant) rights)) lefts)) e
    ∙ sym (filter-append (is_kept meant) (flat_map (matches_to (is_match meant) lefts) rights) (filter (is_not (is_matched (is_match meant) rights)) lefts))
    ∙ ap (λ (k : JoinKind). filter (λ m. kept_by k (list_holds meant meant.filters m)) (right_first (is_match meant) lefts rights)) kind
