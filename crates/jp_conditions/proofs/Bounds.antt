-- The least sets of a join lie in its two sides.
use Rattle.std.proofs.Common.{◌≡◌, ◌∙◌, sym, subst, refl, ℕ, zero, suc, ◌<◌, ◌≤◌, ◌⊎◌, inl, inr, Bool, true, false, not, List, [], ◌∷◌, map, filter, eqb-true, arith}
use Rattle.std.specs.Prelude.{bit_and, bit_or, ◌==◌, if◌then◌else◌}
use Rattle.std.proofs.lemmas.Bool.{and_parts}
use Rattle.jp_base.specs.Sets.{Within}
use Rattle.jp_base.proofs.SetLemmas.{has_and}
use Rattle.jp_base.proofs.MaskAlgebra.{left_within, right_within, both_within}
use Rattle.jp_facts.proofs.Members.{In, in_map, from_map, from_append}
use Rattle.jp_base.specs.declared.values.Ty.TheVariants as ty
use Rattle.jp_query.specs.Typing.{is_of, are_conditions, type_of}
use Rattle.jp_problem.specs.declared.types.Outline.{Outline}
use Rattle.jp_problem.specs.declared.types.Placed.{Placed}
use Rattle.jp_problem.specs.declared.types.Rule.{Rule}
use Rattle.jp_problem.specs.declared.types.Special.{Special}
use Rattle.jp_problem.specs.declared.types.Written.{Written}
use Rattle.jp_problem.specs.Blocks.{used, used_by}
use Rattle.jp_problem.specs.Closure.{IsClosedUnder, closure}
use Rattle.jp_problem.specs.MinimumSets.{is_left, is_left_join, both_sets, stands_in, taken_by_right, taken_by_left, taken_in_side, clause_needs, comes_first, used_in, is_needed_left, left_rules, left_set, nulled_below, filters_side, is_in_region, needs_in, kept_in, filtering_sets, region_needs, kept_placeholders, right_seed, has_no_anchor, is_left_inside, is_unanchored, right_rules, with_sets, specials_in}
use Rattle.jp_problem.specs.Sets.{is_within, or_if_empty, without}
use Rattle.jp_problem.proofs.SetTests.{is_within_says, has_without}
use Rattle.jp_conditions.proofs.Closures.{least_of, each_rule}
use Rattle.jp_conditions.proofs.Numbers.{Numbered, numbered_map, one_numbered, above}
use Rattle.jp_conditions.proofs.Places.{sides_of, written_no}
use Rattle.jp_conditions.proofs.SetForms.{Some, or_within, if_within, union_within, each_of_five, union_each}
use Rattle.jp_conditions.proofs.Sources.{special_no, sides_no, special_sides, IsFrom, all_from, same_sides, special_numbers}
use Rattle.jp_conditions.proofs.Standing.{Sides, Standing}

-- where the items that a clause uses lie: in the right side of its region
abbrev pub LiesInRegion : ℕ → List Sides → ℕ → ℕ → Type 0
LiesInRegion set xs region uses = ((region ≡ 0) × Within uses set) ⊎ ((r : Sides) × In r xs × (r.no ≡ region) × Within uses r.right)

-- what the tree of a typed block says of its outline
pub record Laid (block : Outline) (set : ℕ) : Type 0 where
  pub high : ℕ
  pub some : Some set
  pub numbered : Numbered written_no 0 block.joins
  pub standing : Standing set 0 high 0 (map sides_of block.joins)
  pub uses : (w : Written) → In w block.joins → Within w.uses (bit_or w.syn_left w.syn_right)
  pub uses_of_on : (w : Written) → In w block.joins → w.uses ≡ used_by block.rels w.on
  pub typed : (w : Written) → In w block.joins → are_conditions (map type_of w.on) ≡ true
  pub clauses : (c : Placed) → In c block.clauses → LiesInRegion set (map sides_of block.joins) c.region c.uses
  pub uses_of_expr : (c : Placed) → In c block.clauses → c.uses ≡ used block.rels c.expr
  pub typed_clauses : (c : Placed) → In c block.clauses → is_of ty.Boolean (type_of c.expr) ≡ true

-- the items of a join as it is written
abbrev pub written_items : Special → ℕ
written_items s = bit_or s.syn_left s.syn_right

pub record IsBounded (s : Special) : Type 0 where
  pub left : Within s.min_left s.syn_left
  pub right : Within s.min_right s.syn_right

pub both_inside : (t : Special) (side : ℕ) → IsBounded t → Within (written_items t) side → Within (both_sets t) side
both_inside t side b w =
    both_within t.min_left t.min_right side (λ i h. left_within t.syn_left t.syn_right side w i (b.left i h)) (λ i h. right_within t.syn_left t.syn_right side w i (b.right i h))

chosen_side : (e : Bool) (set side : ℕ) → Within set side → Within (if e then set else side) side
chosen_side true set side w = w
chosen_side false set side w = λ i h. h

module _ (block : Outline) (set : ℕ) (laid : Laid block set) where
  pub sides_numbered : Numbered sides_no 0 (map sides_of block.joins)
  sides_numbered = numbered_map sides_of written_no sides_no (λ w. refl) 0 block.joins laid.numbered

  pub numbers : Numbered special_no 0 (specials_in block)
  numbers = special_numbers block laid.numbered

  pub one_side : (s t : Sides) → In s (map sides_of block.joins) → In t (map sides_of block.joins) → s.no ≡ t.no → s ≡ t
  one_side s t h k e = one_numbered sides_no 0 (map sides_of block.joins) s t sides_numbered h k e

  pub one_join : (s t : Special) → In s (specials_in block) → In t (specials_in block) → s.no ≡ t.no → s ≡ t
  one_join s t h k e = one_numbered special_no 0 (specials_in block) s t numbers h k e

  pub stands_at : (s : Special) → In s (specials_in block) → In (special_sides s) (map sides_of block.joins)
  stands_at s h = subst (In (special_sides s)) (same_sides block) (in_map special_sides s (specials_in block) h)

  pub from : (s : Special) → In s (specials_in block) → IsFrom block (specials_in block) s
  from s h = (all_from block laid.numbered).each s h

  pub from_one : (s : Special) → In s (specials_in block) → 0 < s.no
  from_one s h = above special_no 0 (specials_in block) s numbers h

  -- what has the region of a join stands in its right side
  pub in_region : (v : Special) (s : Sides) → In v (specials_in block) → In s (map sides_of block.joins) → v.region ≡ s.no → Within (written_items v) s.right
  in_region v s h k e = elim (laid.standing.enclosed (special_sides v) (stands_at v h)) [
    | inl top ↦ (let low = above sides_no 0 (map sides_of block.joins) s sides_numbered k in absurd (omega (arith, low, sym e ∙ top)))
    | inr r ↦ subst (λ (t : Sides). Within (written_items v) t.right) (one_side r.0 s r.1 k (r.2 ∙ e)) r.3
  ]

  pub clause_in_region : (c : Placed) (s : Sides) → In c block.clauses → In s (map sides_of block.joins) → c.region ≡ s.no → Within c.uses s.right
  clause_in_region c s h k e = elim (laid.clauses c h) [
    | inl top ↦ (let low = above sides_no 0 (map sides_of block.joins) s sides_numbered k in absurd (omega (arith, low, sym e ∙ top.0)))
    | inr r ↦ subst (λ (t : Sides). Within c.uses t.right) (one_side r.0 s r.1 k (r.2 ∙ e)) r.3
  ]

  -- what a clause needs lies in a side in which the items that it uses lie
  pub needs_bounded : (ts : List Special) (side uses : ℕ) → ((t : Special) → In t ts → IsBounded t) → Within uses side → Within (clause_needs ts side uses) side
  needs_bounded ts side uses bounded w =
      least_of (taken_in_side ts side) (or_if_empty uses side) side (or_within uses side side w (λ i h. h))
      (each_rule (stands_in side) taken_by_right ts (IsClosedUnder side) (λ t h e m. both_inside t side (bounded t h) ((is_within_says (written_items t) side).0 e)))

  module _ (before : List Special) (w : Written) (here : In w block.joins) (known : (t : Special) → In t before → In t (specials_in block) × IsBounded t) where
    placed : In (sides_of w) (map sides_of block.joins)
    placed = in_map sides_of w block.joins here

    used_within : (side : ℕ) → Within (used_in w side) side
    used_within side = or_within (bit_and w.uses side) side side (λ i h. ((has_and w.uses side i).0 h).1) (λ i h. h)

    inside_side : (side : ℕ) (t : Special) → In t before → stands_in side t ≡ true → Within (both_sets t) side
    inside_side side t h e = both_inside t side (known t h).1 ((is_within_says (written_items t) side).0 e)

    left_bound : Within (left_set block.rels before w) w.syn_left
    left_bound =
        least_of (left_rules block.rels before w) (used_in w w.syn_left) w.syn_left (used_within w.syn_left)
        (each_rule (is_needed_left block.rels w) taken_by_right before (IsClosedUnder w.syn_left) (λ t h e m. inside_side w.syn_left t h (and_parts (stands_in w.syn_left t) (comes_first block.rels w t) e).0))

    filters_bound : Within (filtering_sets before w) w.syn_right
    filters_bound = union_each both_sets (filters_side w) before w.syn_right (λ v h e. both_inside v w.syn_right (known v h).1 (in_region v (sides_of w) (known v h).0 placed (eqb-true v.region w.no (and_parts (v.region == w.no) (not (is_left_join v)) e).0)))

    needs_bound : Within (region_needs block.clauses before w) w.syn_right
    needs_bound = union_each (needs_in before w.syn_right) (is_in_region w.no) block.clauses w.syn_right (λ c h e. needs_bounded before w.syn_right c.uses (λ t k. (known t k).1) (clause_in_region c (sides_of w) h placed (eqb-true c.region w.no e)))

    kept_bound : Within (kept_placeholders block.placeholders w) w.syn_right
    kept_bound = union_within (map (kept_in w.syn_right) block.placeholders) w.syn_right (λ x h. let found = from_map (kept_in w.syn_right) x block.placeholders h in subst (λ s. Within s w.syn_right) found.2 (if_within (is_within found.0 w.syn_right) found.0 w.syn_right ((is_within_says found.0 w.syn_right).0)))

    seed_bound : Within (right_seed block before w) w.syn_right
    seed_bound =
        union_within (used_in w w.syn_right ∷ without w.syn_right (nulled_below before w) ∷ filtering_sets before w ∷ region_needs block.clauses before w ∷ kept_placeholders block.placeholders w ∷ []) w.syn_right
        (each_of_five (λ x. Within x w.syn_right) (used_in w w.syn_right) (without w.syn_right (nulled_below before w)) (filtering_sets before w) (region_needs block.clauses before w) (kept_placeholders block.placeholders w)
        (used_within w.syn_right) (λ i h. ((has_without w.syn_right (nulled_below before w) i).0 h).0) filters_bound needs_bound kept_bound)

    inside_bound : (u : Special) → In u before → is_left_inside w u ≡ true → Within (both_sets u) w.syn_right
    inside_bound u h e = inside_side w.syn_right u h (and_parts (is_left_join u) (stands_in w.syn_right u) e).1

    rules_bound : (r : Rule) → In r (right_rules block.rels before w) → IsClosedUnder w.syn_right r
    rules_bound r h = elim (from_append r (map taken_by_right (filter (is_left_inside w) before)) (map taken_by_left (filter (is_unanchored block.rels (nulled_below before w) w) before)) h) [
      | inl k ↦ each_rule (is_left_inside w) taken_by_right before (IsClosedUnder w.syn_right) (λ u m e meets. inside_bound u m e) r k
      | inr k ↦ each_rule (is_unanchored block.rels (nulled_below before w) w) taken_by_left before (IsClosedUnder w.syn_right) (λ u m e meets. inside_bound u m (and_parts (is_left_inside w u) (has_no_anchor block.rels (nulled_below before w) u) e).0) r k
    ]

    pub made_bounded : IsBounded (with_sets block before w)
    made_bounded = record {
      left = left_bound;
      right = chosen_side (is_left w.kind) (closure (right_rules block.rels before w) (right_seed block before w)) w.syn_right (least_of (right_rules block.rels before w) (right_seed block before w) w.syn_right seed_bound rules_bound);
    }

  bounded_up_to : (n : ℕ) (s : Special) → In s (specials_in block) → s.no ≤ n → IsBounded s
  bounded_up_to zero s h low = let k = from_one s h in absurd (omega (arith, k, low))
  bounded_up_to (suc n) s h low =
      let f = from s h in
      subst IsBounded (sym f.is) (made_bounded f.before f.written f.stands (λ t k. let e = f.earlier t k in (e.0, bounded_up_to n t e.0 (omega (arith, e.1, low)))))

  pub bounded : (s : Special) → In s (specials_in block) → IsBounded s
  bounded s h = bounded_up_to s.no s h (omega arith)
