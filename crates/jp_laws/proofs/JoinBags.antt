-- Joins and FROM make one bag of sides that are one bag. A Left join is the Inner join and the tuples of the Anti join.
use Rattle.std.proofs.Common.{◌≡◌, ap, sym, subst, refl, ℕ, Bool, true, false, not, cond, ◌||◌, List, [], ◌∷◌, ◌++◌, map, filter, fold, arith, append_assoc}
use Rattle.std.specs.List.{flat_map}
use Rattle.std.specs.List.Sorted.{IsPermutation}
use Rattle.std.proofs.lemmas.List.Sorted.{IsPermutation-refl, IsPermutation-sym, IsPermutation-cons, IsPermutation-trans, IsPermutation-middle, IsPermutation-append, IsPermutation-append_right, IsPermutation-map, length_permutation, list_any-IsPermutation}
use Rattle.sqlite_keyed.proofs.ListLemmas.{IsPermutation-same, IsPermutation-flat_map, IsPermutation-filter, IsPermutation-flat_map_each, filter_same}
use Rattle.jp_query.specs.declared.JoinKind.{JoinKind}
use Rattle.jp_query.specs.declared.JoinKind.TheVariants as join
use Rattle.jp_query.specs.Meaning.{Env, ValueIn, Tuples, holds, with_rows, without, or_else, is_match, is_match_of, pairs, pairs_or_alone, has_match, has_no_match, is_unmatched, left_join, join_tuples, extended, with_member, combined}
use Rattle.jp_laws.specs.Bags.{IsOneBag, AreOneBag}

-- ---- joins

alone_bag : (env : Env) (xs ys : List Env) → IsPermutation xs ys → IsPermutation (or_else xs env) (or_else ys env)
alone_bag env [] [] p = IsPermutation-refl (env ∷ [])
alone_bag env [] (y ∷ ys) p = absurd (omega (arith, length_permutation [] (y ∷ ys) p))
alone_bag env (x ∷ xs) [] p = absurd (omega (arith, length_permutation (x ∷ xs) [] p))
alone_bag env (x ∷ xs) (y ∷ ys) p = p

filter_bag : (f g : Env → Bool) → ((x : Env) → f x ≡ g x) → (xs ys : List Env) → IsPermutation xs ys → IsPermutation (filter f xs) (filter g ys)
filter_bag f g same xs ys h = subst (λ l. IsPermutation l (filter g ys)) (sym (filter_same f g same xs)) (IsPermutation-filter g xs ys h)

module _ (on : List ValueIn) (r : ℕ) (lefts lefts' rights rights' : List Env) (p : IsPermutation lefts lefts') (q : IsPermutation rights rights') where
  pairs_bag : (left : Env) → IsPermutation (pairs on r rights left) (pairs on r rights' left)
  pairs_bag left = IsPermutation-filter (holds on) (map (with_rows r left) rights) (map (with_rows r left) rights') (IsPermutation-map (with_rows r left) rights rights' q)

  match_same : (left : Env) → has_match on r rights left ≡ has_match on r rights' left
  match_same left = list_any-IsPermutation (is_match on r left) rights rights' q

  unmatched_same : (right : Env) → is_unmatched on r lefts right ≡ is_unmatched on r lefts' right
  unmatched_same right = ap not (list_any-IsPermutation (is_match_of on r right) lefts lefts' p)

  inner_bag : IsPermutation (flat_map (pairs on r rights) lefts) (flat_map (pairs on r rights') lefts')
  inner_bag =
      IsPermutation-trans (flat_map (pairs on r rights) lefts) (flat_map (pairs on r rights') lefts) (flat_map (pairs on r rights') lefts')
      (IsPermutation-flat_map_each (pairs on r rights) (pairs on r rights') pairs_bag lefts)
      (IsPermutation-flat_map (pairs on r rights') lefts lefts' p)

  left_bag : IsPermutation (left_join on r lefts rights) (left_join on r lefts' rights')
  left_bag =
      IsPermutation-trans (left_join on r lefts rights) (left_join on r lefts rights') (left_join on r lefts' rights')
      (IsPermutation-flat_map_each (pairs_or_alone on r rights) (pairs_or_alone on r rights')
      (λ left. alone_bag (without r left) (pairs on r rights left) (pairs on r rights' left) (pairs_bag left)) lefts)
      (IsPermutation-flat_map (pairs_or_alone on r rights') lefts lefts' p)

  full_bag : (l : ℕ) → IsPermutation (join_tuples join.Full on l lefts r rights) (join_tuples join.Full on l lefts' r rights')
  full_bag l =
      IsPermutation-append (left_join on r lefts rights) (left_join on r lefts' rights') (map (without l) (filter (is_unmatched on r lefts) rights)) (map (without l) (filter (is_unmatched on r lefts') rights'))
      left_bag
      (IsPermutation-map (without l) (filter (is_unmatched on r lefts) rights) (filter (is_unmatched on r lefts') rights')
      (filter_bag (is_unmatched on r lefts) (is_unmatched on r lefts') unmatched_same rights rights' q))

pub join_bag : (kind : JoinKind) (on : List ValueIn) (l r : ℕ) (lefts lefts' rights rights' : List Env) → IsPermutation lefts lefts' → IsPermutation rights rights' → IsPermutation (join_tuples kind on l lefts r rights) (join_tuples kind on l lefts' r rights')
join_bag join.Inner on l r lefts lefts' rights rights' p q = inner_bag on r lefts lefts' rights rights' p q
join_bag join.Left on l r lefts lefts' rights rights' p q = left_bag on r lefts lefts' rights rights' p q
join_bag join.Right on l r lefts lefts' rights rights' p q = left_bag on l rights rights' lefts lefts' q p
join_bag join.Full on l r lefts lefts' rights rights' p q = full_bag on r lefts lefts' rights rights' p q l
join_bag join.Semi on l r lefts lefts' rights rights' p q = filter_bag (has_match on r rights) (has_match on r rights') (match_same on r lefts lefts' rights rights' p q) lefts lefts' p
join_bag join.Anti on l r lefts lefts' rights rights' p q =
    filter_bag (has_no_match on r rights) (has_no_match on r rights') (λ left. ap not (match_same on r lefts lefts' rights rights' p q left)) lefts lefts' p

-- ---- a Left join

is_found : List Env → Bool
is_found [] = false
is_found (x ∷ xs) = true

module _ (on : List ValueIn) (l r : ℕ) (rights : List Env) where
  match_at : (left right : Env) (rest : List Env) (b : Bool) → has_match on r rest left ≡ is_found (pairs on r rest left) → (b || has_match on r rest left) ≡ is_found (cond b (with_rows r left right ∷ pairs on r rest left) (pairs on r rest left))
  unfolding is_found
  match_at left right rest true h = refl
  match_at left right rest false h = h

  match_found : (left : Env) (rest : List Env) → has_match on r rest left ≡ is_found (pairs on r rest left)
  unfolding is_found
  match_found left [] = refl
  match_found left (right ∷ rest) = match_at left right rest (holds on (with_rows r left right)) (match_found left rest)

  at_left : (x : Env) (found more inners alones : List Env) (b : Bool) → b ≡ is_found found → IsPermutation more (inners ++ map (without r) alones) → IsPermutation (or_else found (without r x) ++ more) ((found ++ inners) ++ map (without r) (cond (not b) (x ∷ alones) alones))
  unfolding is_found
  at_left x [] more inners alones true e h = cc
  at_left x [] more inners alones false e h =
      let absent = without r x in
      let alone = map (without r) alones in
      IsPermutation-trans (absent ∷ more) (absent ∷ (inners ++ alone)) (inners ++ absent ∷ alone)
      (IsPermutation-cons absent more (inners ++ alone) h) (IsPermutation-sym (inners ++ absent ∷ alone) (absent ∷ (inners ++ alone)) (IsPermutation-middle inners absent alone))
  at_left x (y ∷ ys) more inners alones true e h =
      let alone = map (without r) alones in
      IsPermutation-trans ((y ∷ ys) ++ more) ((y ∷ ys) ++ (inners ++ alone)) (((y ∷ ys) ++ inners) ++ alone)
      (IsPermutation-append_right (y ∷ ys) more (inners ++ alone) h) (IsPermutation-same ((y ∷ ys) ++ (inners ++ alone)) (((y ∷ ys) ++ inners) ++ alone) (sym (append_assoc (y ∷ ys) inners alone)))
  at_left x (y ∷ ys) more inners alones false e h = cc

  pub left_splits : (lefts : List Env) → IsPermutation (join_tuples join.Left on l lefts r rights) (join_tuples join.Inner on l lefts r rights ++ map (without r) (join_tuples join.Anti on l lefts r rights))
  left_splits [] = IsPermutation-refl []
  left_splits (x ∷ lefts) = at_left x (pairs on r rights x) (left_join on r lefts rights) (flat_map (pairs on r rights) lefts) (filter (has_no_match on r rights) lefts) (has_match on r rights x) (match_found x rights) (left_splits lefts)

-- ---- FROM

module _ (env : Env) where
  extended_bag : (member other : Tuples) → IsOneBag env member other → (tuple : Env) → IsPermutation (extended member env tuple) (extended other env tuple)
  extended_bag member other h tuple =
      subst (λ rels. IsPermutation (map (with_rows member.rels tuple) (member.tuples env)) (map (with_rows rels tuple) (other.tuples env))) h.rels
      (IsPermutation-map (with_rows member.rels tuple) (member.tuples env) (other.tuples env) h.tuples)

  member_bag : (member other : Tuples) → IsOneBag env member other → (xs ys : List Env) → IsPermutation xs ys → IsPermutation (with_member env xs member) (with_member env ys other)
  member_bag member other h xs ys p =
      IsPermutation-trans (with_member env xs member) (with_member env xs other) (with_member env ys other)
      (IsPermutation-flat_map_each (extended member env) (extended other env) (extended_bag member other h) xs)
      (IsPermutation-flat_map (extended other env) xs ys p)

  members_bag : (members others : List Tuples) → AreOneBag env members others → (xs ys : List Env) → IsPermutation xs ys → IsPermutation (fold (with_member env) xs members) (fold (with_member env) ys others)
  members_bag [] [] h xs ys p = p
  members_bag [] (other ∷ others) h xs ys p = absurd h
  members_bag (member ∷ members) [] h xs ys p = absurd h
  members_bag (member ∷ members) (other ∷ others) h xs ys p = members_bag members others h.1 (with_member env xs member) (with_member env ys other) (member_bag member other h.0 xs ys p)

pub from_bag : (conds : List ValueIn) (env : Env) (members others : List Tuples) → AreOneBag env members others → IsPermutation (filter (holds conds) (combined members env)) (filter (holds conds) (combined others env))
from_bag conds env members others h = IsPermutation-filter (holds conds) (combined members env) (combined others env) (members_bag env members others h (env ∷ []) (env ∷ []) (IsPermutation-refl (env ∷ [])))
