-- Right sets are nested or apart: where two meet, one of the joins stands in the right side of the other, whose right set holds
-- all that it needs.
use Rattle.std.proofs.Common.{◌≡◌, ◌∙◌, ap, sym, subst, ℕ, zero, suc, ◌+◌, ◌<◌, ◌≤◌, ◌⊎◌, inl, inr, true, false, map, arith}
use Rattle.std.proofs.lemmas.Bool.{cases_Bool}
use Rattle.jp_base.specs.Sets.{Has, Within, Meets}
use Rattle.jp_base.proofs.MaskAlgebra.{in_left, in_right}
use Rattle.jp_facts.proofs.Members.{In, from_map}
use Rattle.jp_problem.specs.declared.types.Outline.{Outline}
use Rattle.jp_problem.specs.declared.types.Special.{Special}
use Rattle.jp_problem.specs.Legal.{Apart}
use Rattle.jp_problem.specs.MinimumSets.{is_left, specials_in}
use Rattle.jp_conditions.proofs.Bounds.{Laid, written_items, one_side, in_region, bounded, stands_at}
use Rattle.jp_conditions.proofs.Places.{sides_of}
use Rattle.jp_conditions.proofs.Rules.{Takes, left_of, right_rules_of}
use Rattle.jp_conditions.proofs.SetForms as forms
use Rattle.jp_conditions.proofs.Sources.{special_sides, same_sides}
use Rattle.jp_conditions.proofs.Standing.{Sides, whole, Related, IsJoin, sides_apart, lower}

module _ (block : Outline) (set : ℕ) (laid : Laid block set) where
  pub join_at : (s : Special) → In s (specials_in block) → IsJoin (special_sides s)
  join_at s h = laid.standing.joins (special_sides s) (stands_at block set laid s h)

  pub special_at : (u : Sides) → In u (map sides_of block.joins) → (v : Special) × In v (specials_in block) × (special_sides v ≡ u)
  special_at u h = from_map special_sides u (specials_in block) (subst (In u) (sym (same_sides block)) h)

  pub is_lower : (s t : Special) → In s (specials_in block) → In t (specials_in block) → Within (written_items t) s.syn_right → t.no < s.no
  is_lower s t h k w = lower set 0 laid.high 0 (map sides_of block.joins) laid.standing (one_side block set laid) (special_sides s) (special_sides t) (stands_at block set laid s h) (stands_at block set laid t k) s.syn_right w (inr (λ i p. p))

  pub apart_sides : (s : Special) → In s (specials_in block) → Apart s.syn_left s.syn_right
  apart_sides s h = sides_apart set 0 laid.high 0 (map sides_of block.joins) laid.standing (special_sides s) (stands_at block set laid s h)

  pub left_some : (s : Special) → In s (specials_in block) → forms.Some s.min_left
  left_some s h = (left_of block set laid s h).some (join_at s h).left_some

  -- the first item of the right side is one of the right set
  pub right_some : (s : Special) → In s (specials_in block) → forms.Some s.min_right
  right_some s h =
      let first = (join_at s h).right_first in
      elim ((right_rules_of block set laid s h).own first.0 first.1) [
        | inl p ↦ (first.0, p)
        | inr u ↦ (let i = (join_at u.0 u.1).left_some in
            let before = (join_at u.0 u.1).in_order i.0 first.0 i.1 ((bounded block set laid u.0 u.1).right first.0 u.4) in
            let behind = first.2 i.0 (u.3 i.0 (in_left u.0.syn_left u.0.syn_right i.0 i.1)) in
            absurd (omega (arith, before, behind)))
      ]

  pub in_order : (s : Special) (i j : ℕ) → In s (specials_in block) → Has s.min_left i → Has s.min_right j → i < j
  in_order s i j h p q = let b = bounded block set laid s h in (join_at s h).in_order i j (b.left i p) (b.right j q)

  pub not_in_itself : (s : Special) → In s (specials_in block) → Within s.min_left s.min_right → ⊥
  not_in_itself s h w = let i = left_some s h in let low = in_order s i.0 i.0 h i.1 (w i.0 i.1) in omega (arith, low)

  -- the region of what stands in the right side of s: s, or a join that stands there too
  pub region_of : (t s : Special) → In t (specials_in block) → In s (specials_in block) → Within (written_items t) s.syn_right → (t.region ≡ s.no) ⊎ ((u : Special) × In u (specials_in block) × (u.no ≡ t.region) × Within (written_items u) s.syn_right)
  region_of t s h k w = elim (laid.standing.innermost (special_sides t) (special_sides s) (stands_at block set laid t h) (stands_at block set laid s k) w) [
    | inl e ↦ inl e
    | inr u ↦ (let v = special_at u.0 u.1 in inr (v.0, v.1, ap (λ (x : Sides). x.no) v.2 ∙ u.2, subst (λ x. Within (whole x) s.syn_right) (sym v.2) u.3))
  ]

  pub stands_in_region : (t u : Special) → In t (specials_in block) → In u (specials_in block) → u.no ≡ t.region → Within (written_items t) u.syn_right
  stands_in_region t u h k e = in_region block set laid t (special_sides u) h (stands_at block set laid u k) (sym e)

  pub takes_through : (a b : ℕ) (t : Special) → Takes a t → Within a b → Takes b t
  takes_through a b t k w = record { left = λ i p. w i (k.left i p); right = λ i p. w i (k.right i p) }

  -- what a right set meets of its right side it holds whole
  capture : (n : ℕ) (s t : Special) → In s (specials_in block) → In t (specials_in block) → Within (written_items t) s.syn_right → Meets s.min_right t.min_right → s.no ≤ t.no + n → Takes s.min_right t
  capture zero s t h k w meets near = let low = is_lower s t h k w in absurd (omega (arith, low, near))
  capture (suc n) s t h k w meets near = elim (cases_Bool (is_left t.kind)) [
    | inl left ↦ of_left left (cases_Bool (is_left s.kind))
    | inr other ↦ elim (region_of t s k h w) [
      | inl e ↦ by_region e (cases_Bool (is_left s.kind)) other
      | inr u ↦ (let inner = (right_rules_of block set laid u.0 u.1).filters t k (sym u.2) other in
          let further = is_lower u.0 t u.1 k (stands_in_region t u.0 k u.1 u.2) in
          let outer = capture n s u.0 h u.1 u.3 (meets.0, meets.1, inner.right meets.0 meets.2) (omega (arith, further, near)) in
          takes_through u.0.min_right s.min_right t inner outer.right)
    ]
  ]
    where
      of_left : is_left t.kind ≡ true → (is_left s.kind ≡ true) ⊎ (is_left s.kind ≡ false) → Takes s.min_right t
      of_left left kind = (right_rules_of block set laid s h).takes t k left w meets

      by_region : t.region ≡ s.no → (is_left s.kind ≡ true) ⊎ (is_left s.kind ≡ false) → is_left t.kind ≡ false → Takes s.min_right t
      by_region e kind other = (right_rules_of block set laid s h).filters t k e other

  pub captured : (s t : Special) → In s (specials_in block) → In t (specials_in block) → Within (written_items t) s.syn_right → Meets s.min_right t.min_right → Takes s.min_right t
  captured s t h k w meets = capture s.no s t h k w meets (omega arith)

  -- t stands in the right side of s, whose right set holds what t needs
  pub record IsHeld (s t : Special) : Type 0 where
    pub stands : Within (written_items t) s.syn_right
    pub takes : Takes s.min_right t

  pub nested_or_apart : (s t : Special) → In s (specials_in block) → In t (specials_in block) → (s.no ≡ t.no → ⊥) → Meets s.min_right t.min_right → IsHeld s t ⊎ IsHeld t s
  nested_or_apart s t h k other meets = by_kind (laid.standing.related (special_sides s) (special_sides t) (stands_at block set laid s h) (stands_at block set laid t k) other)
    where
      of_s : Has s.syn_right meets.0
      of_s = (bounded block set laid s h).right meets.0 meets.1

      of_t : Has t.syn_right meets.0
      of_t = (bounded block set laid t k).right meets.0 meets.2

      by_kind : Related (special_sides s) (special_sides t) → IsHeld s t ⊎ IsHeld t s
      by_kind (Related.in_its_left w n) = absurd (apart_sides t k (meets.0, w meets.0 (in_right s.syn_left s.syn_right meets.0 of_s), of_t))
      by_kind (Related.in_its_right w n) = inr (record { stands = w; takes = captured t s k h w (meets.0, meets.2, meets.1) })
      by_kind (Related.has_left w n) = absurd (apart_sides s h (meets.0, w meets.0 (in_right t.syn_left t.syn_right meets.0 of_t), of_s))
      by_kind (Related.has_right w n) = inl (record { stands = w; takes = captured s t h k w meets })
      by_kind (Related.apart away) = absurd (away (meets.0, in_right s.syn_left s.syn_right meets.0 of_s, in_right t.syn_left t.syn_right meets.0 of_t))

  -- a join whose right set lies in that of another stands in the right side of the other, and is inside it
  pub inner_held : (s t : Special) → In s (specials_in block) → In t (specials_in block) → (s.no ≡ t.no → ⊥) → Within s.min_right t.min_right → IsHeld t s
  inner_held s t h k other w =
      let i = right_some s h in
      elim (nested_or_apart s t h k other (i.0, i.1, w i.0 i.1)) [
        | inr held ↦ held
        | inl held ↦ absurd (not_in_itself t k (λ i p. w i (held.takes.left i p)))
      ]
