-- Where the left set of u meets the right set of t and u isn't inside t, t comes first, or its absence voids u.
use Rattle.std.proofs.Common.{◌≡◌, ◌∙◌, sym, subst, refl, ℕ, ◌<◌, inl, inr, true, false, List, map, Some}
use Rattle.std.specs.Prelude.{bit_or, slice_get}
use Rattle.std.specs.Int.{bit_at}
use Rattle.std.proofs.lemmas.Bool.{cases_Bool, cases_eq}
use Rattle.jp_base.specs.Sets.{Has, Within, Meets}
use Rattle.jp_base.proofs.MaskAlgebra.{has_none, in_left, in_right}
use Rattle.jp_facts.proofs.Members.{In}
use Rattle.jp_query.specs.declared.Expr.{Expr}
use Rattle.jp_query.specs.declared.JoinKind.{JoinKind}
use Rattle.jp_query.specs.declared.JoinKind.TheVariants as join
use Rattle.jp_query.specs.Meaning.{Row, Env, in_place, given, no_tables, holds, value_of, value_given}
use Rattle.jp_query.specs.Nullness.{rejects}
use Rattle.jp_query.specs.Nullness.Gone.{relations}
use Rattle.jp_query.specs.Refs.{refs_of}
use Rattle.jp_query.specs.Typing.{are_conditions, type_of}
use Rattle.jp_strict.proofs.SoundLists.{not_held}
use Rattle.jp_problem.specs.declared.types.Outline.{Outline}
use Rattle.jp_problem.specs.declared.types.Special.{Special}
use Rattle.jp_problem.specs.Blocks.{rels_at, used_by}
use Rattle.jp_problem.specs.Conditions.{IsAbsent}
use Rattle.jp_problem.specs.Legal.{Apart, IsInside}
use Rattle.jp_problem.specs.MinimumSets.{is_left, specials_in}
use Rattle.jp_conditions.proofs.Bounds.{Laid, written_items, bounded, from, stands_at}
use Rattle.jp_conditions.proofs.Items.{items_have, rels_of_set, used_member}
use Rattle.jp_conditions.proofs.Nesting.{apart_sides, region_of, captured, takes_through}
use Rattle.jp_conditions.proofs.Rules.{Takes, Spares, Anchored, left_of, right_rules_of, whole_of}
use Rattle.jp_conditions.proofs.Sources.{special_sides}
use Rattle.jp_conditions.proofs.Standing.{Related}
use Rattle.jp_conditions.proofs.Untouched.{rejects_anyway}

pub left_kind : (kind : JoinKind) → is_left kind ≡ true → kind ≡ join.Left
left_kind join.Left e = refl
left_kind join.Inner e = cc
left_kind join.Right e = cc
left_kind join.Full e = cc
left_kind join.Semi e = cc
left_kind join.Anti e = cc

-- the list holds in no environment in which the relations of these items are absent
pub record IsVoidIn (rels : List ℕ) (on : List Expr) (set : ℕ) : Type 0 where
  pub in_place : (tables : ℕ → List Row) (env : Env) → IsAbsent (rels_at rels set) env → holds (map (value_of tables) on) env ≡ false
  pub given : (rows : ℕ → List Row) (env : Env) → IsAbsent (rels_at rels set) env → holds (map (value_given rows) on) env ≡ false

pub void_by : (rels : List ℕ) (on : List Expr) (set gone : ℕ) → are_conditions (map type_of on) ≡ true → rejects (relations gone) on ≡ true → Within gone (rels_at rels set) → IsVoidIn rels on set
void_by rels on set gone typed e w = record {
  in_place = λ tables env absent. not_held (relations gone) env (λ rel h. absent rel (w rel h)) in_place tables on typed e;
  given = λ rows env absent. not_held (relations gone) env (λ rel h. absent rel (w rel h)) (given rows) no_tables on typed e;
}

-- t comes first, or its absence voids u
pub data Comes (rels : List ℕ) (u t : Special) : Type 0 where
  first : Takes u.min_left t → Comes rels u t
  void : u.kind ≡ join.Left → IsVoidIn rels u.on t.min_right → Comes rels u t

module _ (block : Outline) (set : ℕ) (laid : Laid block set) where
  pub typed_on : (s : Special) → In s (specials_in block) → are_conditions (map type_of s.on) ≡ true
  typed_on s h = let f = from block set laid s h in subst (λ (t : Special). are_conditions (map type_of t.on) ≡ true) (sym f.is) (laid.typed f.written f.stands)

  pub on_inside : (s : Special) → In s (specials_in block) → Within (used_by block.rels s.on) (written_items s)
  on_inside s h = let f = from block set laid s h in
      subst (λ (t : Special). Within (used_by block.rels t.on) (written_items t)) (sym f.is) (subst (λ n. Within n (bit_or f.written.syn_left f.written.syn_right)) (laid.uses_of_on f.written f.stands) (laid.uses f.written f.stands))

module _ (block : Outline) (set : ℕ) (laid : Laid block set) (low : (k r : ℕ) → slice_get block.rels k ≡ Some r → (i : ℕ) → Has r i → i < 64) where
  spared : (u t : Special) → In u (specials_in block) → Spares block.rels u t → Comes block.rels u t
  spared u t h e = Comes.void (left_kind u.kind e.0) (void_by block.rels u.on t.min_right (rels_at block.rels t.min_right) (typed_on block set laid u h) e.1 (λ i m. m))

  -- an anchor outside the side in which u stands is an item that the ON list of u doesn't speak of
  never_true : (u : Special) (k r there : ℕ) → In u (specials_in block) → slice_get block.rels k ≡ Some r → ¬ Has (written_items u) k → rejects (relations r) u.on ≡ true → IsVoidIn block.rels u.on there
  never_true u k r there h at outside e = void_by block.rels u.on there 0 (typed_on block set laid u h) (sym (rejects_anyway r (low k r at) u.on away) ∙ e) (λ i m. absurd (has_none i m))
    where
      away : (x : Expr) → In x u.on → Apart r (refs_of x)
      away x m meets = outside (on_inside block set laid u h k (used_member block.rels u.on x m k (items_have block.rels (refs_of x) k (r, at, meets))))

  anchored : (u t : Special) → In u (specials_in block) → is_left u.kind ≡ true → Within (written_items u) t.syn_right → Anchored block.rels t.syn_right t.min_right u → Comes block.rels u t
  anchored u t h kind w a = Comes.void (left_kind u.kind kind) (elim (cases_eq (bit_at t.syn_right a.0) 1) [
    | inl here ↦ void_by block.rels u.on t.min_right a.1 (typed_on block set laid u h) a.4 (rels_of_set block.rels t.min_right a.0 a.1 a.2 (a.3 here))
    | inr away ↦ never_true u a.0 a.1 t.min_right h a.2 (λ m. away (w a.0 m)) a.4
  ])

  inside_of : (u t : Special) → Takes t.min_right u → IsInside u t
  inside_of u t k = record { left = k.left; right = k.right }

  module _ (u t : Special) (h : In u (specials_in block)) (k : In t (specials_in block)) (other : u.no ≡ t.no → ⊥) (met : Meets u.min_left t.min_right) (outside : ¬ IsInside u t) where
    of_u : Has u.syn_left met.0
    of_u = (bounded block set laid u h).left met.0 met.1

    of_t : Has t.syn_right met.0
    of_t = (bounded block set laid t k).right met.0 met.2

    in_left_side : Within (written_items t) u.syn_left → Comes block.rels u t
    in_left_side w = elim ((left_of block set laid u h).takes t k w met) [ inl takes ↦ Comes.first takes | inr e ↦ spared u t h e ]

    -- a Semi or Anti join in the right side of t is inside t, and so is any where t isn't a Left join
    filters : Within (written_items u) t.syn_right → is_left u.kind ≡ false → IsInside u t
    filters w kind = elim (region_of block set laid u t h k w) [
      | inl e ↦ inside_of u t ((right_rules_of block set laid t k).filters u h e kind)
      | inr v ↦ (let inner = (right_rules_of block set laid v.0 v.1).filters u h (sym v.2) kind in
          let outer = captured block set laid t v.0 k v.1 v.3 (met.0, met.2, inner.left met.0 met.1) in
          inside_of u t (takes_through block set laid v.0.min_right t.min_right u inner outer.right))
    ]

    whole_side : Within (written_items u) t.syn_right → is_left t.kind ≡ false → IsInside u t
    whole_side w kind =
        let b = bounded block set laid u h in
        let same = sym (whole_of block set laid t k kind) in
        record {
          left = subst (Within u.min_left) same (λ i p. w i (in_left u.syn_left u.syn_right i (b.left i p)));
          right = subst (Within u.min_right) same (λ i p. w i (in_right u.syn_left u.syn_right i (b.right i p)));
        }

    in_right_side : Within (written_items u) t.syn_right → Comes block.rels u t
    in_right_side w = elim (cases_Bool (is_left t.kind)) [
      | inr kind ↦ absurd (outside (whole_side w kind))
      | inl left ↦ elim (cases_Bool (is_left u.kind)) [
        | inr kind ↦ absurd (outside (filters w kind))
        | inl kind ↦ elim ((right_rules_of block set laid t k).loose u h kind w (met.0, met.2, met.1)) [
          | inl takes ↦ absurd (outside (inside_of u t takes))
          | inr a ↦ anchored u t h kind w a
        ]
      ]
    ]

    pub comes : Comes block.rels u t
    comes = by_kind (laid.standing.related (special_sides u) (special_sides t) (stands_at block set laid u h) (stands_at block set laid t k) other)
      where
        by_kind : Related (special_sides u) (special_sides t) → Comes block.rels u t
        by_kind (Related.in_its_left w n) = absurd (apart_sides block set laid t k (met.0, w met.0 (in_left u.syn_left u.syn_right met.0 of_u), of_t))
        by_kind (Related.in_its_right w n) = in_right_side w
        by_kind (Related.has_left w n) = in_left_side w
        by_kind (Related.has_right w n) = absurd (apart_sides block set laid u h (met.0, of_u, w met.0 (in_right t.syn_left t.syn_right met.0 of_t)))
        by_kind (Related.apart away) = absurd (away (met.0, in_left u.syn_left u.syn_right met.0 of_u, in_right t.syn_left t.syn_right met.0 of_t))
