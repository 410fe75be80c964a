-- A tuple of a tree is the outer environment but for the tree's relations.
use Rattle.std.proofs.Common.{◌≡◌, ◌∙◌, ap, ap₂, sym, subst, refl, ℕ, inl, inr, not, ◌||◌, List, [], ◌∷◌, map, filter, fold, None, Some, eq-eqb}
use mathlib.Core.Path.{fun_ext}
use Rattle.std.specs.Prelude.{bit_or, if◌then◌else◌}
use Rattle.std.specs.Int.{bit_at}
use Rattle.std.specs.List.{flat_map}
use Rattle.std.proofs.lemmas.Bool.{ne_eqb}
use Rattle.jp_base.specs.Sets.{Has}
use Rattle.jp_base.proofs.SetLemmas.{has_or}
use Rattle.jp_base.proofs.MaskAlgebra.{in_left, in_right}
use Rattle.jp_facts.proofs.Members.{In, from_map, from_filter, from_append, from_flat_map}
use Rattle.jp_query.specs.declared.JoinKind.{JoinKind}
use Rattle.jp_query.specs.declared.JoinKind.TheVariants as join
use Rattle.jp_query.specs.Joins.{join_rels}
use Rattle.jp_query.specs.Refs.{only}
use Rattle.jp_query.specs.Meaning.{Row, Env, ValueIn, Tuples, holds, with_row, with_rows, without, or_else, pairs, pairs_or_alone, has_match, has_no_match, is_unmatched, left_join, join_tuples, extended, with_member, rels_in}
use Rattle.jp_conditions.proofs.Spans.{has_itself}
use Rattle.jp_frame.proofs.Sets.{decide_has}
use Rattle.jp_spine.proofs.ActiveLaws.{filter_same}
use Rattle.jp_spine.proofs.ListLaws.{flat_same}

module _ (env : Env) where
  abbrev pub Out : ℕ → Env → Type 0
  Out rels x = (rel : ℕ) → ¬ Has rels rel → x rel ≡ env rel

  abbrev pub AllOut : ℕ → List Env → Type 0
  AllOut rels xs = (x : Env) → In x xs → Out rels x

  pub leaf_out : (rel : ℕ) (rows : List Row) → AllOut (only rel) (map (with_row env rel) rows)
  leaf_out rel rows x h n none =
      let row = from_map (with_row env rel) x rows h in
      ap (λ (z : Env). z n) (sym row.2) ∙ ap (λ b. if b then Some row.0 else env n) (ne_eqb n rel (λ e. none (subst (λ k. Has (only rel) k) (sym e) (has_itself rel))))

  rows_out : (l r : ℕ) (x u : Env) → Out l x → Out (bit_or l r) (with_rows r x u)
  rows_out l r x u o n none = ap (λ b. if b then u n else x n) (ne_eqb (bit_at r n) 1 (λ p. none (in_right l r n p))) ∙ o n (λ p. none (in_left l r n p))

  without_out : (l r : ℕ) (x : Env) → Out l x → Out (bit_or l r) (without r x)
  without_out l r x o n none = ap (λ b. if b then None else x n) (ne_eqb (bit_at r n) 1 (λ p. none (in_right l r n p))) ∙ o n (λ p. none (in_left l r n p))

  turned : (l r : ℕ) (x : Env) → Out (bit_or r l) x → Out (bit_or l r) x
  turned l r x o n none = o n (λ p. none (elim ((has_or r l n).0 p) [ inl q ↦ in_right l r n q | inr q ↦ in_left l r n q ]))

  pairs_out : (on : List ValueIn) (l r : ℕ) (rights : List Env) (u : Env) → Out l u → AllOut (bit_or l r) (pairs on r rights u)
  pairs_out on l r rights u o x h =
      let v = from_map (with_rows r u) x rights (from_filter (holds on) x (map (with_rows r u) rights) h).1 in
      subst (Out (bit_or l r)) v.2 (rows_out l r u v.0 o)

  or_out : (n : ℕ) (alone : Env) (xs : List Env) → Out n alone → AllOut n xs → AllOut n (or_else xs alone)
  or_out n alone [] o each x (inl e) = subst (Out n) e o
  or_out n alone [] o each x (inr h) = absurd h
  or_out n alone (y ∷ xs) o each x h = each x h

  left_out : (on : List ValueIn) (l r : ℕ) (lefts rights : List Env) → AllOut l lefts → AllOut (bit_or l r) (left_join on r lefts rights)
  left_out on l r lefts rights each x h =
      let u = from_flat_map (pairs_or_alone on r rights) x lefts h in
      or_out (bit_or l r) (without r u.0) (pairs on r rights u.0) (without_out l r u.0 (each u.0 u.1)) (pairs_out on l r rights u.0 (each u.0 u.1)) x u.2

  pub join_out : (kind : JoinKind) (on : List ValueIn) (l r : ℕ) (lefts rights : List Env) → AllOut l lefts → AllOut r rights → AllOut (join_rels kind l r) (join_tuples kind on l lefts r rights)
  join_out join.Inner on l r lefts rights a b x h = let u = from_flat_map (pairs on r rights) x lefts h in pairs_out on l r rights u.0 (a u.0 u.1) x u.2
  join_out join.Left on l r lefts rights a b x h = left_out on l r lefts rights a x h
  join_out join.Right on l r lefts rights a b x h = turned l r x (left_out on r l rights lefts b x h)
  join_out join.Full on l r lefts rights a b x h = elim (from_append x (left_join on r lefts rights) (map (without l) (filter (is_unmatched on r lefts) rights)) h) [
    | inl p ↦ left_out on l r lefts rights a x p
    | inr p ↦ (let v = from_map (without l) x (filter (is_unmatched on r lefts) rights) p in
        turned l r x (subst (Out (bit_or r l)) v.2 (without_out r l v.0 (b v.0 (from_filter (is_unmatched on r lefts) v.0 rights v.1).1))))
  ]
  join_out join.Semi on l r lefts rights a b x h = a x (from_filter (has_match on r rights) x lefts h).1
  join_out join.Anti on l r lefts rights a b x h = a x (from_filter (has_no_match on r rights) x lefts h).1

  pub member_out : (n : ℕ) (start : List Env) (t : Tuples) → AllOut n start → AllOut (bit_or n t.rels) (with_member env start t)
  member_out n start t each x h =
      let u = from_flat_map (extended t env) x start h in
      let v = from_map (with_rows t.rels u.0) x (t.tuples env) u.2 in
      subst (Out (bit_or n t.rels)) v.2 (rows_out n t.rels u.0 v.0 (each u.0 u.1))

  pub rest_out : (n : ℕ) (start : List Env) (ts : List Tuples) → AllOut n start → AllOut (fold bit_or n (map rels_in ts)) (fold (with_member env) start ts)
  rest_out n start [] each = each
  rest_out n start (t ∷ ts) each = rest_out (bit_or n t.rels) (with_member env start t) ts (member_out n start t each)

-- ---- joins by sets of relations that differ where nothing has rows

module _ (on : List ValueIn) (l wide narrow : ℕ) (us vs : List Env) (sub : (rel : ℕ) → Has narrow rel → Has wide rel) (left_none : (u : Env) → In u us → (rel : ℕ) → Has wide rel → u rel ≡ None)
    (right_none : (v : Env) → In v vs → (rel : ℕ) → Has wide rel → ¬ Has narrow rel → v rel ≡ None) where
  over : (r : ℕ) (x u : Env) (i : ℕ) → Has r i → with_rows r x u i ≡ u i
  over r x u i p = ap (λ b. if b then u i else x i) (eq-eqb (bit_at r i) 1 p)

  under : (r : ℕ) (x u : Env) (i : ℕ) → ¬ Has r i → with_rows r x u i ≡ x i
  under r x u i p = ap (λ b. if b then u i else x i) (ne_eqb (bit_at r i) 1 p)

  gone : (r : ℕ) (x : Env) (i : ℕ) → Has r i → without r x i ≡ None
  gone r x i p = ap (λ b. if b then None else x i) (eq-eqb (bit_at r i) 1 p)

  kept : (r : ℕ) (x : Env) (i : ℕ) → ¬ Has r i → without r x i ≡ x i
  kept r x i p = ap (λ b. if b then None else x i) (ne_eqb (bit_at r i) 1 p)

  rows_same : (u v : Env) → In u us → In v vs → with_rows wide u v ≡ with_rows narrow u v
  rows_same u v h k = fun_ext (λ rel. elim (decide_has narrow rel) [
    | inl p ↦ over wide u v rel (sub rel p) ∙ sym (over narrow u v rel p)
    | inr n ↦ elim (decide_has wide rel) [
      | inl p ↦ over wide u v rel p ∙ right_none v k rel p n ∙ sym (left_none u h rel p) ∙ sym (under narrow u v rel n)
      | inr m ↦ under wide u v rel m ∙ sym (under narrow u v rel n)
    ]
  ])

  without_same : (u : Env) → In u us → without wide u ≡ without narrow u
  without_same u h = fun_ext (λ rel. elim (decide_has narrow rel) [
    | inl p ↦ gone wide u rel (sub rel p) ∙ sym (gone narrow u rel p)
    | inr n ↦ elim (decide_has wide rel) [
      | inl p ↦ gone wide u rel p ∙ sym (left_none u h rel p) ∙ sym (kept narrow u rel n)
      | inr m ↦ kept wide u rel m ∙ sym (kept narrow u rel n)
    ]
  ])

  all_rows : (u : Env) → In u us → (xs : List Env) → ((v : Env) → In v xs → In v vs) → map (with_rows wide u) xs ≡ map (with_rows narrow u) xs
  all_rows u h [] k = refl
  all_rows u h (v ∷ xs) k = ap₂ ◌∷◌ (rows_same u v h (k v (inl refl))) (all_rows u h xs (λ x m. k x (inr m)))

  pairs_same : (u : Env) → In u us → pairs on wide vs u ≡ pairs on narrow vs u
  pairs_same u h = ap (filter (holds on)) (all_rows u h vs (λ v m. m))

  any_same : (u : Env) → In u us → (xs : List Env) → ((v : Env) → In v xs → In v vs) → has_match on wide xs u ≡ has_match on narrow xs u
  any_same u h [] k = refl
  any_same u h (v ∷ xs) k = ap₂ ◌||◌ (ap (holds on) (rows_same u v h (k v (inl refl)))) (any_same u h xs (λ x m. k x (inr m)))

  match_same : (u : Env) → In u us → has_match on wide vs u ≡ has_match on narrow vs u
  match_same u h = any_same u h vs (λ v m. m)

  pub inner_swapped : flat_map (pairs on wide vs) us ≡ flat_map (pairs on narrow vs) us
  inner_swapped = flat_same (pairs on wide vs) (pairs on narrow vs) us pairs_same

  pub left_swapped : left_join on wide us vs ≡ left_join on narrow us vs
  left_swapped = flat_same (pairs_or_alone on wide vs) (pairs_or_alone on narrow vs) us (λ u h. ap₂ or_else (pairs_same u h) (without_same u h))

  pub semi_swapped : filter (has_match on wide vs) us ≡ filter (has_match on narrow vs) us
  semi_swapped = filter_same (has_match on wide vs) (has_match on narrow vs) us match_same

  pub anti_swapped : filter (has_no_match on wide vs) us ≡ filter (has_no_match on narrow vs) us
  anti_swapped = filter_same (has_no_match on wide vs) (has_no_match on narrow vs) us (λ u h. ap not (match_same u h))
