-- What a join finds means the tuples of the join.
use Rattle.std.proofs.Common.{◌≡◌, ◌∙◌, ap, ap₂, sym, refl, ℕ, suc, ◌+◌, ◌<◌, Bool, true, false, not, ◌&&◌, ◌||◌, cond, List, [], ◌∷◌, ◌++◌, length, get_or, take, map, filter, append-nil, arith}
use Rattle.std.specs.Prelude.{All, None, replicate, if◌then◌else◌}
use Rattle.std.specs.List.{flat_map, list_any}
use Rattle.std.proofs.lemmas.List.{map-append, take_more}
use Rattle.std.proofs.lemmas.List.Folds.{list_any-append}
use Rattle.jp_query.specs.declared.JoinKind.{JoinKind}
use Rattle.jp_query.specs.declared.JoinKind.TheVariants as join
use Rattle.jp_query.specs.Joins.{join_rels}
use Rattle.jp_query.specs.Meaning.{Env, ValueIn, holds, with_rows, without, or_else, is_match_of, pairs, pairs_or_alone, has_match, is_unmatched, join_tuples}
use Rattle.jp_query.specs.Tables.{TableRows}
use Rattle.jp_naive.specs.Frames.{env_over, envs_over, rels_of}
use Rattle.jp_naive.specs.Joining.{Numbers, absent, is_full, is_marked, joined_leaves, marked, pair_of, pairs_of, pairs_or_left, part_of, part_meant, parts_joined, struck}
use Rattle.jp_naive.specs.Running.{AreApart}
use Rattle.jp_naive.specs.declared.frames.Leaf.{Leaf}
use Rattle.jp_naive.proofs.FrameFacts.{left_alone, or_turned, own_over, pair_over, rels_together, right_alone}

module _ {X Y : Type 0} where
  map_cond : (f : X → Y) (b : Bool) (x : X) (xs : List X) → map f (cond b (x ∷ xs) xs) ≡ cond b (f x ∷ map f xs) (map f xs)
  map_cond f true x xs = refl
  map_cond f false x xs = refl

  any_map : (p : Y → Bool) (f : X → Y) (xs : List X) → list_any p (map f xs) ≡ list_any (λ x. p (f x)) xs
  any_map p f [] = refl
  any_map p f (x ∷ xs) = ap (λ b. p (f x) || b) (any_map p f xs)

module _ {X : Type 0} where
  else_any : (p : X → Bool) (xs : List X) (a : X) (or : List X → X → List X) → ((x : X) → or [] x ≡ x ∷ []) → ((x y : X) (ys : List X) → or (y ∷ ys) x ≡ y ∷ ys) → or (filter p xs) a ≡ (if list_any p xs then filter p xs else a ∷ [])
  else_any p [] a or none some = none a
  else_any p (x ∷ xs) a or none some = at (p x) (else_any p xs a or none some)
    where
      at : (b : Bool) → or (filter p xs) a ≡ (if list_any p xs then filter p xs else a ∷ []) → or (cond b (x ∷ filter p xs) (filter p xs)) a ≡ (if b || list_any p xs then cond b (x ∷ filter p xs) (filter p xs) else a ∷ [])
      at true h = some a x (filter p xs)
      at false h = h

  filter_flat : (p : X → Bool) (xs : List X) → filter p xs ≡ flat_map (λ x. if p x then x ∷ [] else []) xs
  filter_flat p [] = refl
  filter_flat p (x ∷ xs) = at (p x) ∙ ap (λ ys. (if p x then x ∷ [] else []) ++ ys) (filter_flat p xs)
    where
      at : (b : Bool) → cond b (x ∷ filter p xs) (filter p xs) ≡ (if b then x ∷ [] else []) ++ filter p xs
      at true = refl
      at false = refl

  filter_not_flat : (p : X → Bool) (xs : List X) → filter (λ x. not (p x)) xs ≡ flat_map (λ x. if p x then [] else x ∷ []) xs
  filter_not_flat p [] = refl
  filter_not_flat p (x ∷ xs) = at (p x) ∙ ap (λ ys. (if p x then [] else x ∷ []) ++ ys) (filter_not_flat p xs)
    where
      at : (b : Bool) → cond (not b) (x ∷ filter (λ y. not (p y)) xs) (filter (λ y. not (p y)) xs) ≡ (if b then [] else x ∷ []) ++ filter (λ y. not (p y)) xs
      at true = refl
      at false = refl

abbrev Whole : List Leaf → List Numbers → Type 0
Whole leaves list = All (λ numbers. length numbers ≡ length leaves) list

rest_whole : (leaves : List Leaf) (x : Numbers) (xs : List Numbers) → Whole leaves (x ∷ xs) → Whole leaves xs
rest_whole leaves x xs h k d low = h (suc k) d (omega (arith, low))

module _ (tables : TableRows) (outer : Env) (ll rl : List Leaf) (on : List ValueIn) where
  abbrev left_env : Numbers → Env
  left_env l = env_over tables ll l outer

  abbrev right_env : Numbers → Env
  right_env r = env_over tables rl r outer

  abbrev l' : ℕ
  l' = rels_of ll

  abbrev r' : ℕ
  r' = rels_of rl

  -- ---- the pairs of one left tuple

  module _ (l : Numbers) where
    abbrev test : Numbers → Bool
    test r = holds on (env_over tables rl r (left_env l))

    abbrev both : Numbers → Env
    both r = with_rows r' (left_env l) (right_env r)

    test_is : (r : Numbers) → length r ≡ length rl → test r ≡ holds on (both r)
    test_is r e = ap (holds on) (own_over tables rl r (left_env l) outer e)

    pairs_mean : (rights : List Numbers) → Whole rl rights → envs_over tables (rl ++ ll) outer (pairs_of l rights (map test rights)) ≡ pairs on r' (map right_env rights) (left_env l)
    pairs_mean [] h = refl
    pairs_mean (r ∷ rights) h =
        let size = h 0 [] (omega arith) in
        let rest = marked (map test rights) rights in
        ap (envs_over tables (rl ++ ll) outer) (map_cond (pair_of l) (test r) r rest)
        ∙ map_cond (λ numbers. env_over tables (rl ++ ll) numbers outer) (test r) (r ++ l) (map (pair_of l) rest)
        ∙ ap₂ (λ (b : Bool) (e : Env). cond b (e ∷ envs_over tables (rl ++ ll) outer (map (pair_of l) rest)) (envs_over tables (rl ++ ll) outer (map (pair_of l) rest))) (test_is r size) (pair_over tables rl ll r l outer size)
        ∙ ap (λ es. cond (holds on (both r)) (both r ∷ es) es) (pairs_mean rights (rest_whole rl r rights h))

    any_mean : (rights : List Numbers) → Whole rl rights → list_any is_marked (map test rights) ≡ has_match on r' (map right_env rights) (left_env l)
    any_mean [] h = refl
    any_mean (r ∷ rights) h = ap₂ (λ a b. a || b) (test_is r (h 0 [] (omega arith))) (any_mean rights (rest_whole rl r rights h))

    any_pairs : (rights : List Env) → list_any (holds on) (map (with_rows r' (left_env l)) rights) ≡ has_match on r' rights (left_env l)
    any_pairs rights = any_map (holds on) (with_rows r' (left_env l)) rights

    if_map : {X Y : Type 0} (f : X → Y) (b : Bool) (xs ys : List X) → map f (if b then xs else ys) ≡ (if b then map f xs else map f ys)
    if_map f true xs ys = refl
    if_map f false xs ys = refl

    or_left_mean : (width : ℕ) (rights : List Numbers) → width ≡ length rl → Whole rl rights → envs_over tables (rl ++ ll) outer (pairs_or_left width l rights (map test rights)) ≡ pairs_or_alone on r' (map right_env rights) (left_env l)
    or_left_mean width rights w h =
        let ps = pairs on r' (map right_env rights) (left_env l) in
        if_map (λ numbers. env_over tables (rl ++ ll) numbers outer) (list_any is_marked (map test rights)) (pairs_of l rights (map test rights)) (pair_of l (absent width) ∷ [])
        ∙ ap₂ (λ (xs : List Env) (e : Env). if list_any is_marked (map test rights) then xs else e ∷ []) (pairs_mean rights h) (ap (λ n. env_over tables (rl ++ ll) (replicate n None ++ l) outer) w ∙ left_alone tables rl ll l outer)
        ∙ ap (λ (b : Bool). if b then ps else without r' (left_env l) ∷ []) (any_mean rights h ∙ sym (any_pairs (map right_env rights)))
        ∙ sym (else_any (holds on) (map (with_rows r' (left_env l)) (map right_env rights)) (without r' (left_env l)) or_else (λ x. refl) (λ x y ys. refl))

    part_mean_at : (kind : JoinKind) (width : ℕ) (rights : List Numbers) → width ≡ length rl → Whole rl rights → envs_over tables (joined_leaves kind ll rl) outer (part_of kind width l rights (map test rights)) ≡ part_meant kind on r' (map right_env rights) (left_env l)
    part_mean_at join.Inner width rights w h = pairs_mean rights h
    part_mean_at join.Left width rights w h = or_left_mean width rights w h
    part_mean_at join.Right width rights w h = or_left_mean width rights w h
    part_mean_at join.Full width rights w h = or_left_mean width rights w h
    part_mean_at join.Semi width rights w h = if_map left_env (list_any is_marked (map test rights)) (l ∷ []) [] ∙ ap (λ (b : Bool). if b then left_env l ∷ [] else []) (any_mean rights h)
    part_mean_at join.Anti width rights w h = if_map left_env (list_any is_marked (map test rights)) [] (l ∷ []) ∙ ap (λ (b : Bool). if b then [] else left_env l ∷ []) (any_mean rights h)

    pub part_mean : (kind : JoinKind) (width : ℕ) (rights : List Numbers) (marks : List Bool) → width ≡ length rl → Whole rl rights → marks ≡ map test rights
        → envs_over tables (joined_leaves kind ll rl) outer (part_of kind width l rights marks) ≡ part_meant kind on r' (map right_env rights) (left_env l)
    part_mean kind width rights marks w h e = ap (λ ms. envs_over tables (joined_leaves kind ll rl) outer (part_of kind width l rights ms)) e ∙ part_mean_at kind width rights w h

  -- ---- right tuples that match none

  abbrev pub unmatched_after : JoinKind → List Env → Numbers → Bool
  unmatched_after kind lefts r = not (is_full kind && list_any (is_match_of on r' (right_env r)) lefts)

  pub all_at_first : (kind : JoinKind) (rights : List Numbers) → replicate (length rights) true ≡ map (unmatched_after kind []) rights
  all_at_first kind [] = refl
  all_at_first kind (r ∷ rights) = ap₂ (λ (b : Bool) (bs : List Bool). b ∷ bs) (at (is_full kind)) (all_at_first kind rights)
    where
      at : (b : Bool) → true ≡ not (b && false)
      at true = refl
      at false = refl

  one_struck : (full a b c : Bool) → b ≡ c → (if full then not (full && a) && not b else not (full && a)) ≡ not (full && (a || (c || false)))
  one_struck true true b c e = refl
  one_struck true false b true e = ap not e
  one_struck true false b false e = ap not e
  one_struck false a b c e = refl

  struck_each : (full : Bool) (u m : Bool) (us ms : List Bool) → (if full then struck (u ∷ us) (m ∷ ms) else u ∷ us) ≡ (if full then u && not m else u) ∷ (if full then struck us ms else us)
  struck_each true u m us ms = refl
  struck_each false u m us ms = refl

  no_rights : (full : Bool) → (if full then struck [] [] else []) ≡ []
  no_rights true = refl
  no_rights false = refl

  struck_mean : (kind : JoinKind) (lefts : List Env) (l : Numbers) (rights : List Numbers) → Whole rl rights
      → (if is_full kind then struck (map (unmatched_after kind lefts) rights) (map (test l) rights) else map (unmatched_after kind lefts) rights) ≡ map (unmatched_after kind (lefts ++ left_env l ∷ [])) rights
  struck_mean kind lefts l [] h = no_rights (is_full kind)
  struck_mean kind lefts l (r ∷ rights) h =
      struck_each (is_full kind) (unmatched_after kind lefts r) (test l r) (map (unmatched_after kind lefts) rights) (map (test l) rights)
      ∙ ap₂ (λ (b : Bool) (bs : List Bool). b ∷ bs)
      (one_struck (is_full kind) (list_any (is_match_of on r' (right_env r)) lefts) (test l r) (holds on (both l r)) (test_is l r (h 0 [] (omega arith)))
      ∙ ap (λ b. not (is_full kind && b)) (sym (list_any-append (is_match_of on r' (right_env r)) lefts (left_env l ∷ []))))
      (struck_mean kind lefts l rights (rest_whole rl r rights h))

  pub still_mean : (kind : JoinKind) (lefts : List Numbers) (at : ℕ) (l : Numbers) (rights : List Numbers) (unmatched more marks : List Bool) → Whole rl rights → at < length lefts → l ≡ get_or lefts at []
      → unmatched ≡ map (unmatched_after kind (envs_over tables ll outer (take at lefts))) rights → marks ≡ map (test l) rights → more ≡ (if is_full kind then struck unmatched marks else unmatched)
      → more ≡ map (unmatched_after kind (envs_over tables ll outer (take (at + 1) lefts))) rights
  still_mean kind lefts at l rights unmatched more marks h there is e f g =
      g ∙ ap₂ (λ us ms. if is_full kind then struck us ms else us) e f
      ∙ struck_mean kind (envs_over tables ll outer (take at lefts)) l rights h
      ∙ ap (λ es. map (unmatched_after kind es) rights)
      (ap (λ x. envs_over tables ll outer (take at lefts) ++ left_env x ∷ []) is
      ∙ sym (map-append left_env (take at lefts) (get_or lefts at [] ∷ []))
      ∙ ap (envs_over tables ll outer) (sym (take_more lefts at [] there)))

  alone_mean : AreApart l' r' → (lefts : List Env) (rights : List Numbers) → Whole rl rights
      → envs_over tables (rl ++ ll) outer (pairs_of (absent (length ll)) rights (map (λ r. not (list_any (is_match_of on r' (right_env r)) lefts)) rights)) ≡ map (without l') (filter (is_unmatched on r' lefts) (map right_env rights))
  alone_mean apart lefts [] h = refl
  alone_mean apart lefts (r ∷ rights) h =
      let b = not (list_any (is_match_of on r' (right_env r)) lefts) in
      let rest = marked (map (λ x. not (list_any (is_match_of on r' (right_env x)) lefts)) rights) rights in
      ap (envs_over tables (rl ++ ll) outer) (map_cond (pair_of (absent (length ll))) b r rest)
      ∙ map_cond (λ numbers. env_over tables (rl ++ ll) numbers outer) b (r ++ absent (length ll)) (map (pair_of (absent (length ll))) rest)
      ∙ ap (λ e. cond b (e ∷ envs_over tables (rl ++ ll) outer (map (pair_of (absent (length ll))) rest)) (envs_over tables (rl ++ ll) outer (map (pair_of (absent (length ll))) rest))) (right_alone tables rl ll r outer (h 0 [] (omega arith)) apart)
      ∙ ap (λ es. cond b (without l' (right_env r) ∷ es) es) (alone_mean apart lefts rights (rest_whole rl r rights h))
      ∙ sym (map_cond (without l') b (right_env r) (filter (is_unmatched on r' lefts) (map right_env rights)))

  pub finish_mean : (kind : JoinKind) (width : ℕ) (lefts : List Env) (rights : List Numbers) (unmatched : List Bool) → width ≡ length ll → Whole rl rights → AreApart l' r' → unmatched ≡ map (unmatched_after kind lefts) rights
      → envs_over tables (joined_leaves kind ll rl) outer (if is_full kind then pairs_of (absent width) rights unmatched else []) ≡ (if is_full kind then map (without l') (filter (is_unmatched on r' lefts) (map right_env rights)) else [])
  finish_mean join.Inner width lefts rights unmatched w h apart e = refl
  finish_mean join.Left width lefts rights unmatched w h apart e = refl
  finish_mean join.Right width lefts rights unmatched w h apart e = refl
  finish_mean join.Semi width lefts rights unmatched w h apart e = refl
  finish_mean join.Anti width lefts rights unmatched w h apart e = refl
  finish_mean join.Full width lefts rights unmatched w h apart e = ap₂ (λ n us. envs_over tables (rl ++ ll) outer (pairs_of (absent n) rights us)) w e ∙ alone_mean apart lefts rights h

-- ---- a join by its left tuples

module _ (on : List ValueIn) (l : ℕ) (lefts : List Env) (r : ℕ) (rights : List Env) where
  pub inner_is : parts_joined join.Inner on l lefts r rights ≡ join_tuples join.Inner on l lefts r rights
  inner_is = append-nil (join_tuples join.Inner on l lefts r rights)

  pub left_is : parts_joined join.Left on l lefts r rights ≡ join_tuples join.Left on l lefts r rights
  left_is = append-nil (join_tuples join.Left on l lefts r rights)

  pub semi_is : parts_joined join.Semi on l lefts r rights ≡ join_tuples join.Semi on l lefts r rights
  semi_is = append-nil (flat_map (part_meant join.Semi on r rights) lefts) ∙ sym (filter_flat (has_match on r rights) lefts)

  pub anti_is : parts_joined join.Anti on l lefts r rights ≡ join_tuples join.Anti on l lefts r rights
  anti_is = append-nil (flat_map (part_meant join.Anti on r rights) lefts) ∙ sym (filter_not_flat (has_match on r rights) lefts)

pub rels_joined : (ll rl : List Leaf) → rels_of (rl ++ ll) ≡ join_rels join.Inner (rels_of ll) (rels_of rl)
rels_joined ll rl = rels_together rl ll

pub rels_exchanged : (ll rl : List Leaf) → rels_of (ll ++ rl) ≡ join_rels join.Inner (rels_of ll) (rels_of rl)
rels_exchanged ll rl = rels_together ll rl ∙ or_turned (rels_of rl) (rels_of ll)
