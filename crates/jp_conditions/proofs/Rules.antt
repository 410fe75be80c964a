-- The rules that the least sets of each special join of a block hold, among all joins of the block.
use Rattle.std.proofs.Common.{◌≡◌, ap, sym, subst, refl, ℕ, suc, ◌+◌, ◌<◌, ◌⊎◌, inl, inr, Bool, true, false, not, ◌&&◌, List, [], ◌∷◌, map, filter, eq-eqb, Some, arith}
use Rattle.std.specs.Prelude.{bit_and, ◌==◌, slice_get, if◌then◌else◌}
use Rattle.std.specs.Int.{bit_at}
use Rattle.std.proofs.lemmas.Bool.{and_parts, and_from, or_cases, cases_eq, cases_Bool, not-true, not_from_false, both_ways}
use Rattle.jp_base.specs.Sets.{Has, Within, Meets}
use Rattle.jp_base.proofs.SetLemmas.{has_and}
use Rattle.jp_base.proofs.MaskAlgebra.{in_right, left_within, right_within}
use Rattle.jp_facts.proofs.Members.{In, in_append_left, in_append_right, in_map}
use Rattle.jp_query.specs.Meaning.{has}
use Rattle.jp_query.specs.Nullness.{rejects}
use Rattle.jp_query.specs.Nullness.Gone.{relations}
use Rattle.jp_problem.specs.declared.types.Outline.{Outline}
use Rattle.jp_problem.specs.declared.types.Placed.{Placed}
use Rattle.jp_problem.specs.declared.types.Special.{Special}
use Rattle.jp_problem.specs.declared.types.Written.{Written}
use Rattle.jp_problem.specs.Blocks.{rels_at, used_by}
use Rattle.jp_problem.specs.Closure.{IsClosedUnder, closure}
use Rattle.jp_problem.specs.MinimumSets.{is_left, is_left_join, both_sets, stands_in, taken_by_right, taken_by_left, taken_in_side, clause_needs, may_come_later, comes_first, used_in, is_needed_left, left_rules, left_set, is_below, is_left_below, right_of, nulled_below, is_anchor, any_anchor_from, has_anchor, filters_side, is_in_region, needs_in, filtering_sets, region_needs, kept_placeholders, right_seed, has_no_anchor, is_left_inside, is_unanchored, right_rules, with_sets, specials_in}
use Rattle.jp_problem.specs.Sets.{or_if_empty, without}
use Rattle.jp_problem.proofs.SetTests.{is_within_says, has_without}
use Rattle.jp_conditions.proofs.Bounds.{Laid, written_items, both_inside, one_side, from, in_region, clause_in_region, needs_bounded, bounded, stands_at}
use Rattle.jp_conditions.proofs.Closures.{holds_seed, closed_at, least_of, each_rule, rule_of}
use Rattle.jp_conditions.proofs.Places.{sides_of}
use Rattle.jp_conditions.proofs.SetForms.{or_holds, or_some, in_union, in_union_each, from_union_each}
use Rattle.jp_conditions.proofs.SetForms as forms
use Rattle.jp_conditions.proofs.Sources.{special_sides}
use Rattle.jp_conditions.proofs.Standing.{sides_apart, lower}

-- both sets of the join lie in the set
pub record Takes (set : ℕ) (t : Special) : Type 0 where
  pub left : Within t.min_left set
  pub right : Within t.min_right set

takes : (set : ℕ) (t : Special) → Within (both_sets t) set → Takes set t
takes set t w = record { left = left_within t.min_left t.min_right set w; right = right_within t.min_left t.min_right set w }

-- the ON list of s rejects nulls of the right set of t
abbrev pub Spares : List ℕ → Special → Special → Type 0
Spares rels s t = (is_left s.kind ≡ true) × (rejects (relations (rels_at rels t.min_right)) s.on ≡ true)

-- an item whose nulls the ON list of u rejects, and which the set holds if it is one of that side
abbrev pub Anchored : List ℕ → ℕ → ℕ → Special → Type 0
Anchored rels side set u = (k : ℕ) × (r : ℕ) × (slice_get rels k ≡ Some r) × (Has side k → Has set k) × (rejects (relations r) u.on ≡ true)

pub record LeftRules (rels : List ℕ) (joins : List Special) (s : Special) : Type 0 where
  pub some : forms.Some s.syn_left → forms.Some s.min_left
  pub uses : (i : ℕ) → Has (used_by rels s.on) i → Has s.syn_left i → Has s.min_left i
  pub takes : (t : Special) → In t joins → Within (written_items t) s.syn_left → Meets s.min_left t.min_right → Takes s.min_left t ⊎ Spares rels s t

-- a Left join in the right side of s whose right set holds the item
abbrev pub NulledBy : List Special → Special → ℕ → Type 0
NulledBy joins s i = (u : Special) × In u joins × (is_left u.kind ≡ true) × Within (written_items u) s.syn_right × Has u.min_right i

pub record RightRules (block : Outline) (joins : List Special) (s : Special) (set : ℕ) : Type 0 where
  pub uses : (i : ℕ) → Has (used_by block.rels s.on) i → Has s.syn_right i → Has set i
  pub own : (i : ℕ) → Has s.syn_right i → Has set i ⊎ NulledBy joins s i
  pub filters : (v : Special) → In v joins → v.region ≡ s.no → is_left v.kind ≡ false → Takes set v
  pub needs : (c : Placed) → In c block.clauses → c.region ≡ s.no → Within (clause_needs joins s.syn_right c.uses) set
  pub takes : (u : Special) → In u joins → is_left u.kind ≡ true → Within (written_items u) s.syn_right → Meets set u.min_right → Takes set u
  pub loose : (u : Special) → In u joins → is_left u.kind ≡ true → Within (written_items u) s.syn_right → Meets set u.min_left → Takes set u ⊎ Anchored block.rels s.syn_right set u

not_back : (b : Bool) → not b ≡ false → b ≡ true
not_back true e = refl
not_back false e = sym e

bool_not : (b c : Bool) → b ≡ true → c ≡ false → (b && not c) ≡ true
bool_not b c e f = and_from b (not c) e (not_from_false c f)

some_anchor : (first : ℕ) (rels : List ℕ) (nulled : ℕ) (u : Special) → any_anchor_from first rels nulled u ≡ true → (k : ℕ) × (r : ℕ) × (slice_get rels k ≡ Some r) × (is_anchor nulled u (first + k) r ≡ true)
some_anchor first [] nulled u e = absurd (both_ways (any_anchor_from first [] nulled u) refl e)
some_anchor first (r ∷ rels) nulled u e = elim (or_cases (is_anchor nulled u first r) (any_anchor_from (suc first) rels nulled u) e) [
  | inl p ↦ (0, r, refl, subst (λ n. is_anchor nulled u n r ≡ true) (omega arith) p)
  | inr p ↦ (let h = some_anchor (suc first) rels nulled u p in (suc h.0, h.1, h.2, subst (λ n. is_anchor nulled u n h.1 ≡ true) (omega arith) h.3))
]

first_anchor : (rels : List ℕ) (nulled : ℕ) (u : Special) → has_anchor rels nulled u ≡ true → (k : ℕ) × (r : ℕ) × (slice_get rels k ≡ Some r) × (is_anchor nulled u k r ≡ true)
first_anchor rels nulled u e = let a = some_anchor 0 rels nulled u e in (a.0, a.1, a.2, subst (λ n. is_anchor nulled u n a.1 ≡ true) (omega arith) a.3)

module _ (block : Outline) (set : ℕ) (laid : Laid block set) where
  module _ (before : List Special) (w : Written) (here : In w block.joins) (older : (t : Special) → In t before → In t (specials_in block) × (t.no < w.no)) (all : (t : Special) → In t (specials_in block) → t.no < w.no → In t before) where
    placed : In (sides_of w) (map sides_of block.joins)
    placed = in_map sides_of w block.joins here

    -- what stands in one of its sides comes before it
    from_left : (t : Special) → In t (specials_in block) → Within (written_items t) w.syn_left → In t before
    from_left t h v = all t h (lower set 0 laid.high 0 (map sides_of block.joins) laid.standing (one_side block set laid) (sides_of w) (special_sides t) placed (stands_at block set laid t h) w.syn_left v (inl (λ i p. p)))

    from_right : (t : Special) → In t (specials_in block) → Within (written_items t) w.syn_right → In t before
    from_right t h v = all t h (lower set 0 laid.high 0 (map sides_of block.joins) laid.standing (one_side block set laid) (sides_of w) (special_sides t) placed (stands_at block set laid t h) w.syn_right v (inr (λ i p. p)))

    stands_true : (t : Special) (side : ℕ) → Within (written_items t) side → stands_in side t ≡ true
    stands_true t side v = (is_within_says (written_items t) side).1 v

    used_has : (side i : ℕ) → Has (used_by block.rels w.on) i → Has side i → Has (used_in w side) i
    used_has side i h p = or_holds (bit_and w.uses side) side i ((has_and w.uses side i).1 (subst (λ n. Has n i) (sym (laid.uses_of_on w here)) h, p))

    left_uses : (i : ℕ) → Has (used_by block.rels w.on) i → Has w.syn_left i → Has (left_set block.rels before w) i
    left_uses i h p = holds_seed (left_rules block.rels before w) (used_in w w.syn_left) i (used_has w.syn_left i h p)

    left_takes : (t : Special) → In t (specials_in block) → Within (written_items t) w.syn_left → Meets (left_set block.rels before w) t.min_right → Takes (left_set block.rels before w) t ⊎ ((is_left w.kind ≡ true) × (rejects (relations (rels_at block.rels t.min_right)) w.on ≡ true))
    left_takes t h v meets = by (comes_first block.rels w t) refl
      where
        by : (b : Bool) → comes_first block.rels w t ≡ b → Takes (left_set block.rels before w) t ⊎ ((is_left w.kind ≡ true) × (rejects (relations (rels_at block.rels t.min_right)) w.on ≡ true))
        by true e = inl (takes (left_set block.rels before w) t (closed_at (left_rules block.rels before w) (used_in w w.syn_left) (taken_by_right t) (rule_of (is_needed_left block.rels w) taken_by_right before t (from_left t h v) (and_from (stands_in w.syn_left t) (comes_first block.rels w t) (stands_true t w.syn_left v) e)) meets))
        by false e = inr (and_parts (is_left w.kind) (rejects (relations (rels_at block.rels t.min_right)) w.on) (not_back (may_come_later block.rels w t) e))

    pub left_rules_hold : LeftRules block.rels (specials_in block) (with_sets block before w)
    left_rules_hold = record {
      some = λ s. let seed = or_some (bit_and w.uses w.syn_left) w.syn_left s in (seed.0, holds_seed (left_rules block.rels before w) (used_in w w.syn_left) seed.0 seed.1);
      uses = left_uses;
      takes = left_takes;
    }

    -- ---- the right set of a Left join

    abbrev minimum : ℕ
    minimum = closure (right_rules block.rels before w) (right_seed block before w)

    abbrev seeds : List ℕ
    seeds = used_in w w.syn_right ∷ without w.syn_right (nulled_below before w) ∷ filtering_sets before w ∷ region_needs block.clauses before w ∷ kept_placeholders block.placeholders w ∷ []

    from_seed : (x : ℕ) → In x seeds → Within x minimum
    from_seed x h i p = holds_seed (right_rules block.rels before w) (right_seed block before w) i (in_union x seeds h i p)

    kept : (i : ℕ) → Has w.syn_right i → ¬ Has (nulled_below before w) i → Has minimum i
    kept i h free = from_seed (without w.syn_right (nulled_below before w)) (inr (inl refl)) i ((has_without w.syn_right (nulled_below before w) i).1 (h, free))

    nulled_by : (i : ℕ) → Has w.syn_right i → Has (nulled_below before w) i → NulledBy (specials_in block) (with_sets block before w) i
    nulled_by i h n =
        let found = from_union_each right_of (is_left_below w) before i n in
        let u = found.0 in
        let parts = and_parts (is_left_join u) (is_below w u) found.2 in
        let known = (older u found.1).0 in
        (u, known, parts.0, right_side u known found.3 (or_cases (stands_in w.syn_left u) (stands_in w.syn_right u) parts.1), found.3)
      where
        right_side : (u : Special) → In u (specials_in block) → Has u.min_right i → (stands_in w.syn_left u ≡ true) ⊎ (stands_in w.syn_right u ≡ true) → Within (written_items u) w.syn_right
        right_side u known m (inr e) = (is_within_says (written_items u) w.syn_right).0 e
        right_side u known m (inl e) = absurd (sides_apart set 0 laid.high 0 (map sides_of block.joins) laid.standing (sides_of w) placed (i, (is_within_says (written_items u) w.syn_left).0 e i (in_right u.syn_left u.syn_right i ((bounded block set laid u known).right i m)), h))

    own_items : (i : ℕ) → Has w.syn_right i → Has minimum i ⊎ NulledBy (specials_in block) (with_sets block before w) i
    own_items i h = elim (cases_eq (bit_at (nulled_below before w) i) 1) [ inl n ↦ inr (nulled_by i h n) | inr free ↦ inl (kept i h free) ]

    filters_in : (v : Special) → In v (specials_in block) → v.region ≡ w.no → is_left v.kind ≡ false → Takes minimum v
    filters_in v h e k =
        let b = from_right v h (in_region block set laid v (sides_of w) h placed e) in
        takes minimum v (λ i p. from_seed (filtering_sets before w) (inr (inr (inl refl))) i (in_union_each both_sets (filters_side w) before v b (bool_not (v.region == w.no) (is_left_join v) (eq-eqb v.region w.no e) k) i p))

    -- what a clause needs among all joins it needs among those before
    same_needs : (uses : ℕ) → Within (clause_needs (specials_in block) w.syn_right uses) (clause_needs before w.syn_right uses)
    same_needs uses =
        least_of (taken_in_side (specials_in block) w.syn_right) (or_if_empty uses w.syn_right) (clause_needs before w.syn_right uses) (holds_seed (taken_in_side before w.syn_right) (or_if_empty uses w.syn_right))
        (each_rule (stands_in w.syn_right) taken_by_right (specials_in block) (IsClosedUnder (clause_needs before w.syn_right uses)) (λ t h e meets. closed_at (taken_in_side before w.syn_right) (or_if_empty uses w.syn_right) (taken_by_right t) (rule_of (stands_in w.syn_right) taken_by_right before t (from_right t h ((is_within_says (written_items t) w.syn_right).0 e)) e) meets))

    needs_held : (c : Placed) → In c block.clauses → c.region ≡ w.no → Within (clause_needs (specials_in block) w.syn_right c.uses) minimum
    needs_held c h e i p = from_seed (region_needs block.clauses before w) (inr (inr (inr (inl refl)))) i (in_union_each (needs_in before w.syn_right) (is_in_region w.no) block.clauses c h (eq-eqb c.region w.no e) i (same_needs c.uses i p))

    inside_true : (u : Special) → is_left u.kind ≡ true → Within (written_items u) w.syn_right → is_left_inside w u ≡ true
    inside_true u k v = and_from (is_left_join u) (stands_in w.syn_right u) k (stands_true u w.syn_right v)

    come_along : (u : Special) → In u (specials_in block) → is_left u.kind ≡ true → Within (written_items u) w.syn_right → Meets minimum u.min_right → Takes minimum u
    come_along u h k v meets =
        takes minimum u (closed_at (right_rules block.rels before w) (right_seed block before w) (taken_by_right u)
        (in_append_left (taken_by_right u) (map taken_by_right (filter (is_left_inside w) before)) (map taken_by_left (filter (is_unanchored block.rels (nulled_below before w) w) before)) (rule_of (is_left_inside w) taken_by_right before u (from_right u h v) (inside_true u k v))) meets)

    unanchored : (u : Special) → In u (specials_in block) → is_left u.kind ≡ true → Within (written_items u) w.syn_right → Meets minimum u.min_left → has_no_anchor block.rels (nulled_below before w) u ≡ true → Takes minimum u
    unanchored u h k v meets free =
        takes minimum u (closed_at (right_rules block.rels before w) (right_seed block before w) (taken_by_left u)
        (in_append_right (taken_by_left u) (map taken_by_right (filter (is_left_inside w) before)) (map taken_by_left (filter (is_unanchored block.rels (nulled_below before w) w) before))
        (rule_of (is_unanchored block.rels (nulled_below before w) w) taken_by_left before u (from_right u h v) (and_from (is_left_inside w u) (has_no_anchor block.rels (nulled_below before w) u) (inside_true u k v) free))) meets)

    anchored : (u : Special) → has_anchor block.rels (nulled_below before w) u ≡ true → Anchored block.rels w.syn_right minimum u
    anchored u e =
        let a = first_anchor block.rels (nulled_below before w) u e in
        let parts = and_parts (not (has (nulled_below before w) a.0)) (rejects (relations a.1) u.on) a.3 in
        (a.0, a.1, a.2, λ h. kept a.0 h (λ n. both_ways (has (nulled_below before w) a.0) (not-true (has (nulled_below before w) a.0) parts.0) (eq-eqb (bit_at (nulled_below before w) a.0) 1 n)), parts.1)

    loosely : (u : Special) → In u (specials_in block) → is_left u.kind ≡ true → Within (written_items u) w.syn_right → Meets minimum u.min_left
        → Takes minimum u ⊎ Anchored block.rels w.syn_right minimum u
    loosely u h k v meets = elim (cases_Bool (has_anchor block.rels (nulled_below before w) u)) [
      | inl e ↦ inr (anchored u e)
      | inr e ↦ inl (unanchored u h k v meets (not_from_false (has_anchor block.rels (nulled_below before w) u) e))
    ]

    of_left : RightRules block (specials_in block) (with_sets block before w) minimum
    of_left = record {
      uses = λ i h p. from_seed (used_in w w.syn_right) (inl refl) i (used_has w.syn_right i h p);
      own = own_items;
      filters = filters_in;
      needs = needs_held;
      takes = come_along;
      loose = loosely;
    }

    -- ---- that of a Semi or Anti join, which is its right side

    in_side : (u : Special) → In u (specials_in block) → Within (written_items u) w.syn_right → Takes w.syn_right u
    in_side u h v = takes w.syn_right u (both_inside u w.syn_right (bounded block set laid u h) v)

    of_other : RightRules block (specials_in block) (with_sets block before w) w.syn_right
    of_other = record {
      uses = λ i h p. p;
      own = λ i h. inl h;
      filters = λ v h e k. in_side v h (in_region block set laid v (sides_of w) h placed e);
      needs = λ c h e. needs_bounded block set laid (specials_in block) w.syn_right c.uses (λ t k. bounded block set laid t k) (clause_in_region block set laid c (sides_of w) h placed e);
      takes = λ u h k v meets. in_side u h v;
      loose = λ u h k v meets. inl (in_side u h v);
    }

    of_either : (b : Bool) → RightRules block (specials_in block) (with_sets block before w) (if b then minimum else w.syn_right)
    of_either true = of_left
    of_either false = of_other

    pub right_rules_hold : RightRules block (specials_in block) (with_sets block before w) (with_sets block before w).min_right
    right_rules_hold = of_either (is_left w.kind)

    pub whole_side : is_left w.kind ≡ false → (with_sets block before w).min_right ≡ w.syn_right
    whole_side e = ap (λ b. if b then minimum else w.syn_right) e

  abbrev Older : Special → List Special → Type 0
  Older s before = (t : Special) → In t before → In t (specials_in block) × (t.no < s.no)

  abbrev AllOlder : Special → List Special → Type 0
  AllOlder s before = (t : Special) → In t (specials_in block) → t.no < s.no → In t before

  module _ (s : Special) (h : In s (specials_in block)) where
    pub left_of : LeftRules block.rels (specials_in block) s
    left_of = let f = from block set laid s h in
        subst (LeftRules block.rels (specials_in block)) (sym f.is) (left_rules_hold f.before f.written f.stands (subst (λ t. Older t f.before) f.is f.earlier) (subst (λ t. AllOlder t f.before) f.is f.all))

    pub right_rules_of : RightRules block (specials_in block) s s.min_right
    right_rules_of = let f = from block set laid s h in
        subst (λ (t : Special). RightRules block (specials_in block) t t.min_right) (sym f.is) (right_rules_hold f.before f.written f.stands (subst (λ t. Older t f.before) f.is f.earlier) (subst (λ t. AllOlder t f.before) f.is f.all))

    pub whole_of : is_left s.kind ≡ false → s.min_right ≡ s.syn_right
    whole_of = let f = from block set laid s h in
        subst (λ (t : Special). is_left t.kind ≡ false → t.min_right ≡ t.syn_right) (sym f.is) (whole_side f.before f.written f.stands (subst (λ t. Older t f.before) f.is f.earlier) (subst (λ t. AllOlder t f.before) f.is f.all))
