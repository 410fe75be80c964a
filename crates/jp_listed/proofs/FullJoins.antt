-- A Full join by other tests and other sets of relations that come to the same on its tuples.
use Rattle.std.proofs.Common.{◌≡◌, ◌∙◌, ap, ap₂, sym, refl, ℕ, inl, inr, not, ◌||◌, cond, List, [], ◌∷◌, ◌++◌, map, filter, None, eq-eqb}
use mathlib.Core.Path.{fun_ext}
use Rattle.std.specs.Prelude.{if◌then◌else◌}
use Rattle.std.specs.Int.{bit_at}
use Rattle.std.specs.List.{list_any}
use Rattle.std.proofs.lemmas.Bool.{ne_eqb}
use Rattle.jp_base.specs.Sets.{Has}
use Rattle.jp_facts.proofs.Members.{In, from_filter}
use Rattle.jp_query.specs.declared.JoinKind.TheVariants as join
use Rattle.jp_query.specs.Meaning.{Env, ValueIn, holds, with_rows, without, or_else, is_match_of, pairs, pairs_or_alone, is_unmatched, join_tuples}
use Rattle.jp_frame.proofs.Sets.{decide_has}
use Rattle.jp_framed.proofs.MapRows.{overlaid, left_alone}
use Rattle.jp_spine.proofs.ActiveLaws.{filter_same}
use Rattle.jp_spine.proofs.ListLaws.{flat_same}

-- ---- sets that differ where nothing does

module _ (wide narrow : ℕ) (sub : (rel : ℕ) → Has narrow rel → Has wide rel) where
  pub wide_rows : (u v : Env) → ((rel : ℕ) → Has wide rel → ¬ Has narrow rel → v rel ≡ u rel) → with_rows wide u v ≡ with_rows narrow u v
  wide_rows u v same = fun_ext (λ rel. elim (decide_has narrow rel) [
    | inl p ↦ overlaid wide u v rel (sub rel p) ∙ sym (overlaid narrow u v rel p)
    | inr n ↦ elim (decide_has wide rel) [
      | inl p ↦ overlaid wide u v rel p ∙ same rel p n ∙ sym (left_alone narrow u v rel n)
      | inr m ↦ left_alone wide u v rel m ∙ sym (left_alone narrow u v rel n)
    ]
  ])

  gone : (set : ℕ) (x : Env) (rel : ℕ) → Has set rel → without set x rel ≡ None
  gone set x rel p = ap (λ b. if b then None else x rel) (eq-eqb (bit_at set rel) 1 p)

  kept : (set : ℕ) (x : Env) (rel : ℕ) → ¬ Has set rel → without set x rel ≡ x rel
  kept set x rel p = ap (λ b. if b then None else x rel) (ne_eqb (bit_at set rel) 1 p)

  pub wide_without : (u : Env) → ((rel : ℕ) → Has wide rel → ¬ Has narrow rel → u rel ≡ None) → without wide u ≡ without narrow u
  wide_without u none = fun_ext (λ rel. elim (decide_has narrow rel) [
    | inl p ↦ gone wide u rel (sub rel p) ∙ sym (gone narrow u rel p)
    | inr n ↦ elim (decide_has wide rel) [
      | inl p ↦ gone wide u rel p ∙ sym (none rel p n) ∙ sym (kept narrow u rel n)
      | inr m ↦ kept wide u rel m ∙ sym (kept narrow u rel n)
    ]
  ])

-- ---- the join

module _ (on other : List ValueIn) (wide_left left wide_right right : ℕ) (us vs : List Env)
    (rows : (u v : Env) → In u us → In v vs → with_rows wide_right u v ≡ with_rows right u v)
    (alike : (u v : Env) → In u us → In v vs → holds on (with_rows right u v) ≡ holds other (with_rows right u v))
    (left_alone_same : (u : Env) → In u us → without wide_right u ≡ without right u)
    (right_alone_same : (v : Env) → In v vs → without wide_left v ≡ without left v) where
  pairs_from : (u : Env) → In u us → (xs : List Env) → ((v : Env) → In v xs → In v vs) → pairs on wide_right xs u ≡ pairs other right xs u
  pairs_from u h [] k = refl
  pairs_from u h (v ∷ xs) k =
      ap₂ (λ x rest. cond (holds on x) (x ∷ rest) rest) (rows u v h (k v (inl refl))) (pairs_from u h xs (λ x m. k x (inr m)))
      ∙ ap (λ b. cond b (with_rows right u v ∷ pairs other right xs u) (pairs other right xs u)) (alike u v h (k v (inl refl)))

  any_from : (v : Env) → In v vs → (xs : List Env) → ((u : Env) → In u xs → In u us) → list_any (is_match_of on wide_right v) xs ≡ list_any (is_match_of other right v) xs
  any_from v h [] k = refl
  any_from v h (u ∷ xs) k = ap₂ ◌||◌ (ap (holds on) (rows u v (k u (inl refl)) h) ∙ alike u v (k u (inl refl)) h) (any_from v h xs (λ x m. k x (inr m)))

  alone_from : (xs : List Env) → ((v : Env) → In v xs → In v vs) → map (without wide_left) xs ≡ map (without left) xs
  alone_from [] k = refl
  alone_from (v ∷ xs) k = ap₂ ◌∷◌ (right_alone_same v (k v (inl refl))) (alone_from xs (λ x m. k x (inr m)))

  pub full_same : join_tuples join.Full on wide_left us wide_right vs ≡ join_tuples join.Full other left us right vs
  full_same = ap₂ ◌++◌
      (flat_same (pairs_or_alone on wide_right vs) (pairs_or_alone other right vs) us (λ u h. ap₂ or_else (pairs_from u h vs (λ v m. m)) (left_alone_same u h)))
      (ap (map (without wide_left)) (filter_same (is_unmatched on wide_right us) (is_unmatched other right us) vs (λ v h. ap not (any_from v h us (λ u m. m))))
      ∙ alone_from (filter (is_unmatched other right us) vs) (λ v m. (from_filter (is_unmatched other right us) v vs m).1))
