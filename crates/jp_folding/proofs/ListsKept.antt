-- Joins of the same tuples on conditions that agree on the pairs of them.
use Rattle.std.proofs.Common.{◌≡◌, ◌∙◌, ap, sym, subst, refl, ℕ, Bool, true, false, not, cond, ◌||◌, List, [], ◌∷◌, ◌++◌, map, filter, fold}
use Rattle.std.specs.List.{list_any, flat_map}
use Rattle.jp_query.specs.declared.JoinKind.{JoinKind}
use Rattle.jp_query.specs.declared.JoinKind.TheVariants as join
use Rattle.jp_query.specs.Meaning.{Env, ValueIn, Tuples, holds, with_rows, without, or_else, pairs, pairs_or_alone, has_match, has_no_match, is_match, is_match_of, is_unmatched, left_join, join_tuples, extended, with_member}
use Rattle.jp_laws.proofs.EachPart.{Each}

module _ {X : Type 0} where
  pub filter_same : (f g : X → Bool) (xs : List X) → Each (λ x. f x ≡ g x) xs → filter f xs ≡ filter g xs
  filter_same f g [] h = refl
  filter_same f g (x ∷ xs) h = λ i. cond (h.0 i) (x ∷ filter_same f g xs h.1 i) (filter_same f g xs h.1 i)

  any_same : (f g : X → Bool) (xs : List X) → Each (λ x. f x ≡ g x) xs → list_any f xs ≡ list_any g xs
  any_same f g [] h = refl
  any_same f g (x ∷ xs) h = λ i. h.0 i || any_same f g xs h.1 i

  pub map_same : {Y : Type 0} (f g : X → Y) (xs : List X) → Each (λ x. f x ≡ g x) xs → map f xs ≡ map g xs
  map_same f g [] h = refl
  map_same f g (x ∷ xs) h = λ i. h.0 i ∷ map_same f g xs h.1 i

  pub each_by : (P Q : X → Type 0) → ((x : X) → P x → Q x) → (xs : List X) → Each P xs → Each Q xs
  each_by P Q w [] h = tt
  each_by P Q w (x ∷ xs) h = (w x h.0, each_by P Q w xs h.1)

  pub each_at_map : {Y : Type 0} (P : X → Type 0) (Q : Y → Type 0) (f : X → Y) → ((x : X) → P x → Q (f x)) → (xs : List X) → Each P xs → Each Q (map f xs)
  each_at_map P Q f w [] h = tt
  each_at_map P Q f w (x ∷ xs) h = (w x h.0, each_at_map P Q f w xs h.1)

flat_same : (f g : Env → List Env) (xs : List Env) → Each (λ x. f x ≡ g x) xs → flat_map f xs ≡ flat_map g xs
flat_same f g [] h = refl
flat_same f g (x ∷ xs) h = λ i. h.0 i ++ flat_same f g xs h.1 i

-- lefts and rights with a fact each, and conditions that agree on the pairs where the relations of the set come from the right
module _ (on' on : List ValueIn) (rels : ℕ) (P Q : Env → Type 0) (good : (x u : Env) → P x → Q u → holds on' (with_rows rels x u) ≡ holds on (with_rows rels x u)) (lefts rights : List Env) (ps : Each P lefts) (qs : Each Q rights) where
  pairs_same : (x : Env) → P x → pairs on' rels rights x ≡ pairs on rels rights x
  pairs_same x p = filter_same (holds on') (holds on) (map (with_rows rels x) rights) (each_at_map Q (λ e. holds on' e ≡ holds on e) (with_rows rels x) (λ u q. good x u p q) rights qs)

  inner_same : flat_map (pairs on' rels rights) lefts ≡ flat_map (pairs on rels rights) lefts
  inner_same = flat_same (pairs on' rels rights) (pairs on rels rights) lefts (each_by P (λ x. pairs on' rels rights x ≡ pairs on rels rights x) pairs_same lefts ps)

  left_same : left_join on' rels lefts rights ≡ left_join on rels lefts rights
  left_same = flat_same (pairs_or_alone on' rels rights) (pairs_or_alone on rels rights) lefts (each_by P (λ x. pairs_or_alone on' rels rights x ≡ pairs_or_alone on rels rights x) (λ x p. ap (λ es. or_else es (without rels x)) (pairs_same x p)) lefts ps)

  match_same : (x : Env) → P x → has_match on' rels rights x ≡ has_match on rels rights x
  match_same x p = any_same (is_match on' rels x) (is_match on rels x) rights (each_by Q (λ u. is_match on' rels x u ≡ is_match on rels x u) (λ u q. good x u p q) rights qs)

  unmatched_same : (u : Env) → Q u → is_unmatched on' rels lefts u ≡ is_unmatched on rels lefts u
  unmatched_same u q = ap not (any_same (is_match_of on' rels u) (is_match_of on rels u) lefts (each_by P (λ x. is_match_of on' rels u x ≡ is_match_of on rels u x) (λ x p. good x u p q) lefts ps))

  matched_same : filter (has_match on' rels rights) lefts ≡ filter (has_match on rels rights) lefts
  matched_same = filter_same (has_match on' rels rights) (has_match on rels rights) lefts (each_by P (λ x. has_match on' rels rights x ≡ has_match on rels rights x) match_same lefts ps)

  missed_same : filter (has_no_match on' rels rights) lefts ≡ filter (has_no_match on rels rights) lefts
  missed_same = filter_same (has_no_match on' rels rights) (has_no_match on rels rights) lefts (each_by P (λ x. has_no_match on' rels rights x ≡ has_no_match on rels rights x) (λ x p. ap not (match_same x p)) lefts ps)

  rest_same : (l : ℕ) → map (without l) (filter (is_unmatched on' rels lefts) rights) ≡ map (without l) (filter (is_unmatched on rels lefts) rights)
  rest_same l = ap (map (without l)) (filter_same (is_unmatched on' rels lefts) (is_unmatched on rels lefts) rights (each_by Q (λ u. is_unmatched on' rels lefts u ≡ is_unmatched on rels lefts u) unmatched_same rights qs))

pub join_same : (kind : JoinKind) (on' on : List ValueIn) (l r : ℕ) (P Q : Env → Type 0) → ((x u : Env) → P x → Q u → holds on' (with_rows r x u) ≡ holds on (with_rows r x u)) → ((u x : Env) → Q u → P x → holds on' (with_rows l u x) ≡ holds on (with_rows l u x))
    → (lefts rights : List Env) → Each P lefts → Each Q rights → join_tuples kind on' l lefts r rights ≡ join_tuples kind on l lefts r rights
join_same join.Inner on' on l r P Q good back lefts rights ps qs = inner_same on' on r P Q good lefts rights ps qs
join_same join.Left on' on l r P Q good back lefts rights ps qs = left_same on' on r P Q good lefts rights ps qs
join_same join.Right on' on l r P Q good back lefts rights ps qs = left_same on' on l Q P back rights lefts qs ps
join_same join.Full on' on l r P Q good back lefts rights ps qs = λ i. left_same on' on r P Q good lefts rights ps qs i ++ rest_same on' on r P Q good lefts rights ps qs l i
join_same join.Semi on' on l r P Q good back lefts rights ps qs = matched_same on' on r P Q good lefts rights ps qs
join_same join.Anti on' on l r P Q good back lefts rights ps qs = missed_same on' on r P Q good lefts rights ps qs

-- ---- the members of FROM

abbrev pub SameMember : Env → Tuples → Tuples → Type 0
SameMember env m n = (m.rels ≡ n.rels) × (m.tuples env ≡ n.tuples env)

member_same : (env : Env) (m n : Tuples) → SameMember env m n → (tuples : List Env) → with_member env tuples m ≡ with_member env tuples n
member_same env m n same tuples = λ i. flat_map (λ x. map (with_rows (same.0 i) x) (same.1 i)) tuples

module _ {A : Type 0} (f g : A → Tuples) (env : Env) where
  pub members_same : (as' : List A) → Each (λ a. SameMember env (f a) (g a)) as' → (tuples : List Env) → fold (with_member env) tuples (map f as') ≡ fold (with_member env) tuples (map g as')
  members_same [] h tuples = refl
  members_same (a ∷ as') h tuples = ap (λ ts. fold (with_member env) ts (map f as')) (member_same env (f a) (g a) h.0 tuples) ∙ members_same as' h.1 (with_member env tuples (g a))

  pub members_rels : (as' : List A) → Each (λ a. SameMember env (f a) (g a)) as' → map (λ (t : Tuples). t.rels) (map f as') ≡ map (λ (t : Tuples). t.rels) (map g as')
  members_rels [] h = refl
  members_rels (a ∷ as') h = λ i. h.0.0 i ∷ members_rels as' h.1 i
