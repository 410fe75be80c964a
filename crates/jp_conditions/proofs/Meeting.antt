-- The problem of an outline that is laid as a typed block's tree meets the conditions.
use Rattle.std.proofs.Common.{◌≡◌, ◌∙◌, ap, sym, subst, refl, ℕ, zero, suc, ◌<◌, ◌⊎◌, inl, inr, List, [], ◌∷◌, map, length, eq-eqb, Some, arith}
use Rattle.std.specs.Prelude.{Contains, slice_get, if◌then◌else◌}
use Rattle.std.proofs.lemmas.Bool.{cases_Bool, cases_eq, ne_eqb}
use Rattle.jp_base.specs.Sets.{Has, Within, Meets}
use Rattle.jp_base.proofs.SetLemmas.{has_or}
use Rattle.jp_base.proofs.MaskAlgebra.{left_within, right_within}
use Rattle.jp_facts.proofs.Members.{In, to_in, from_in, from_map}
use Rattle.jp_problem.specs.declared.types.Clause.{Clause}
use Rattle.jp_problem.specs.declared.types.Item.{Item}
use Rattle.jp_problem.specs.declared.types.Outline.{Outline}
use Rattle.jp_problem.specs.declared.types.Placed.{Placed}
use Rattle.jp_problem.specs.declared.types.Problem.{Problem}
use Rattle.jp_problem.specs.declared.types.Special.{Special}
use Rattle.jp_problem.specs.Blocks.{used, used_by}
use Rattle.jp_problem.specs.Conditions.{Covers, Nested, IsUnder, MeetsConditions}
use Rattle.jp_problem.specs.Legal.{Apart}
use Rattle.jp_problem.specs.MinimumSets.{stands_in, taken_by_right, taken_in_side, clause_needs, specials_in}
use Rattle.jp_problem.specs.Problems.{rels_of_item, join_of, side_of, region_items, clause_of, clauses_in, problem_in}
use Rattle.jp_problem.specs.Sets.{meets, or_if_empty, span}
use Rattle.jp_problem.proofs.SetTests.{is_within_says, meets_says, apart_says}
use Rattle.std.proofs.lemmas.Bool.{not_from_false}
use Rattle.jp_conditions.proofs.Bounds.{Laid, written_items, one_join, numbers, from_one, stands_at}
use Rattle.jp_conditions.proofs.Closures.{holds_seed, closed_at, rule_of}
use Rattle.jp_conditions.proofs.Covering.{IsVoidIn, Comes, on_inside, comes}
use Rattle.jp_conditions.proofs.Nesting.{join_at, special_at, left_some, right_some, in_order, not_in_itself, nested_or_apart, inner_held}
use Rattle.jp_conditions.proofs.Numbers.{number_at}
use Rattle.jp_conditions.proofs.Rules.{left_of, right_rules_of}
use Rattle.jp_conditions.proofs.SetForms.{or_holds, or_some}
use Rattle.jp_conditions.proofs.SetForms as forms
use Rattle.jp_conditions.proofs.Sources.{special_no, special_sides}
use Rattle.jp_conditions.proofs.Standing.{Sides}

pub meet_or_apart : (a b : ℕ) → Meets a b ⊎ Apart a b
meet_or_apart a b = elim (cases_Bool (meets a b)) [ inl e ↦ inl ((meets_says a b).0 e) | inr e ↦ inr ((apart_says a b).0 (not_from_false (meets a b) e)) ]

-- the join of this number, where there is one
join_found : (joins : List Special) (s : Special) → In s joins → ((t : Special) → In t joins → t.no ≡ s.no → t ≡ s) → join_of joins s.no ≡ Some s
join_found [] s h one = absurd h
join_found (t ∷ joins) s (inl e) one = ap (λ b. if b then Some t else join_of joins s.no) (eq-eqb t.no s.no (ap special_no e)) ∙ ap Some e
join_found (t ∷ joins) s (inr h) one = elim (cases_eq t.no s.no) [
  | inl e ↦ ap (λ b. if b then Some t else join_of joins s.no) (eq-eqb t.no s.no e) ∙ ap Some (one t (inl refl) e)
  | inr other ↦ ap (λ b. if b then Some t else join_of joins s.no) (ne_eqb t.no s.no other) ∙ join_found joins s h (λ u k e. one u (inr k) e)
]

module _ (block : Outline) (laid : Laid block (span 0 (length block.rels))) where
  -- the items of a join's region are those of its right side
  pub region_side : (region : ℕ) (s : Special) → In s (specials_in block) → s.no ≡ region → region_items (span 0 (length block.rels)) (specials_in block) region ≡ s.syn_right
  region_side zero s h e = let k = from_one block (span 0 (length block.rels)) laid s h in absurd (omega (arith, e, k))
  region_side (suc r) s h e = ap side_of (subst (λ n. join_of (specials_in block) n ≡ Some s) e (join_found (specials_in block) s h (λ t k f. one_join block (span 0 (length block.rels)) laid t s k h f)))

module _ (items : List Item) (block : Outline) (same : map rels_of_item items ≡ block.rels) (laid : Laid block (span 0 (length block.rels))) (low : (k r : ℕ) → slice_get block.rels k ≡ Some r → (i : ℕ) → Has r i → i < 64) where
  abbrev all : ℕ
  all = span 0 (length block.rels)

  abbrev problem : Problem
  problem = problem_in items block

  member : (s : Special) → Contains (specials_in block) s → In s (specials_in block)
  member s h = to_in s (specials_in block) h

  -- the region of a clause: the top, or a join
  data Region (c : Placed) : Type 0 where
    top : c.region ≡ 0 → Within c.uses all → Region c
    of_join : (s : Special) → In s (specials_in block) → s.no ≡ c.region → Region c

  region : (c : Placed) → In c block.clauses → Region c
  region c h = elim (laid.clauses c h) [
    | inl t ↦ Region.top t.0 t.1
    | inr r ↦ (let s = special_at block all laid r.0 r.1 in Region.of_join s.0 s.1 (ap (λ (x : Sides). x.no) s.2 ∙ r.2))
  ]

  abbrev side : Placed → ℕ
  side c = region_items all (specials_in block) c.region

  abbrev needs : Placed → ℕ
  needs c = clause_needs (specials_in block) (side c) c.uses

  side_some : (c : Placed) → Region c → forms.Some (region_items all (specials_in block) c.region)
  side_some c (Region.top e w) = subst (λ n. forms.Some (region_items all (specials_in block) n)) (sym e) laid.some
  side_some c (Region.of_join s h e) = subst forms.Some (sym (region_side block laid c.region s h e)) (let f = (join_at block all laid s h).right_first in (f.0, f.1))

  some_needed : (c : Placed) → In c block.clauses → forms.Some (needs c)
  some_needed c h = let seed = or_some c.uses (side c) (side_some c (region c h)) in (seed.0, holds_seed (taken_in_side (specials_in block) (side c)) (or_if_empty c.uses (side c)) seed.0 seed.1)

  needed_within : (c : Placed) (r : Special) → In c block.clauses → In r (specials_in block) → r.no ≡ c.region → Within (needs c) r.min_right
  needed_within c r h k e = subst (λ n. Within (clause_needs (specials_in block) n c.uses) r.min_right) (sym (region_side block laid c.region r k e)) ((right_rules_of block all laid r k).needs c h (sym e))

  taken : (c : Placed) (t : Special) → In t (specials_in block) → Within (written_items t) (side c) → Meets t.min_right (needs c) → Within t.min_left (needs c) × Within t.min_right (needs c)
  taken c t k w m =
      let both = closed_at (taken_in_side (specials_in block) (side c)) (or_if_empty c.uses (side c)) (taken_by_right t) (rule_of (stands_in (side c)) taken_by_right (specials_in block) t k ((is_within_says (written_items t) (side c)).1 w)) (m.0, m.2, m.1) in
      (left_within t.min_left t.min_right (needs c) both, right_within t.min_left t.min_right (needs c) both)

  closed : (c : Placed) (t : Special) → In c block.clauses → In t (specials_in block) → IsUnder problem t c.region → Meets t.min_right (needs c) → Within t.min_left (needs c) × Within t.min_right (needs c)
  closed c t h k (inl e) m = taken c t k (subst (λ n. Within (written_items t) (region_items all (specials_in block) n)) (sym e) (laid.standing.within (special_sides t) (stands_at block all laid t k))) m
  closed c t h k (inr r) m =
      let of_r = member r.0 r.1 in
      let held = inner_held block all laid t r.0 k of_r (λ e. not_in_itself block all laid t k (subst (λ (x : Special). Within t.min_left x.min_right) (one_join block all laid r.0 t of_r k (sym e)) r.3.left)) r.3.right in
      taken c t k (subst (Within (written_items t)) (sym (region_side block laid c.region r.0 of_r r.2)) held.stands) m

  placed_of : (c : Clause) → Contains (clauses_in block) c → (p : Placed) × In p block.clauses × (clause_of block.rels (specials_in block) p ≡ c)
  placed_of c h = from_map (clause_of block.rels (specials_in block)) c block.clauses (to_in c (clauses_in block) h)

  region_join : {c : Placed} → Region c → (c.region ≡ 0) ⊎ ((r : Special) × Contains (specials_in block) r × (r.no ≡ c.region))
  region_join (Region.top e w) = inl e
  region_join (Region.of_join s h e) = inr (s, from_in s (specials_in block) h, e)

  uses_needed : (p : Placed) → In p block.clauses → Within (used (map rels_of_item items) p.expr) (needs p)
  uses_needed p h = subst (λ rels. Within (used rels p.expr) (needs p)) (sym same) (subst (λ n. Within n (needs p)) (laid.uses_of_expr p h) (λ i m. holds_seed (taken_in_side (specials_in block) (side p)) (or_if_empty p.uses (side p)) i (or_holds p.uses (side p) i m)))

  on_uses : (s : Special) (i : ℕ) → In s (specials_in block) → Has (used_by (map rels_of_item items) s.on) i → Has s.min_left i ⊎ Has s.min_right i
  on_uses s i h u =
      let here : Has (used_by block.rels s.on) i = subst (λ rels. Has (used_by rels s.on) i) same u in
      elim ((has_or s.syn_left s.syn_right i).0 (on_inside block all laid s h i here)) [
        | inl p ↦ inl ((left_of block all laid s h).uses i here p)
        | inr p ↦ inr ((right_rules_of block all laid s h).uses i here p)
      ]

  nested : (s t : Special) → In s (specials_in block) → In t (specials_in block) → (s.no ≡ t.no → ⊥) → Meets s.min_right t.min_right ⊎ Apart s.min_right t.min_right → Nested s.min_right t.min_right
  nested s t h k other (inr away) = Nested.apart away
  nested s t h k other (inl met) = elim (nested_or_apart block all laid s t h k other met) [ inl held ↦ Nested.around held.takes.right | inr held ↦ Nested.within held.takes.right ]

  covering : (u t : Special) → Comes block.rels u t → Covers (problem_in items block) u t
  covering u t (Comes.first k) = Covers.takes_in k.left k.right
  covering u t (Comes.void kind v) =
      let here = subst (λ rels. IsVoidIn rels u.on t.min_right) (sym same) v in
      Covers.rejects kind (record { in_place = here.in_place; given = here.given })

  pub meets_conditions : MeetsConditions (problem_in items block)
  meets_conditions = record {
    numbered = λ k s e. number_at special_no 0 (specials_in block) k s (numbers block all laid) e ∙ omega arith;
    region_join = λ c h. let p = placed_of c h in subst (λ (x : Clause). (x.region ≡ 0) ⊎ ((r : Special) × Contains (specials_in block) r × (r.no ≡ x.region))) p.2 (region_join (region p.0 p.1));
    left_some = λ s h. left_some block all laid s (member s h);
    right_some = λ s h. right_some block all laid s (member s h);
    in_order = λ s i j h. in_order block all laid s i j (member s h);
    nested = λ s t two. nested s t (member s two.first) (member t two.second) two.differ (meet_or_apart s.min_right t.min_right);
    left_within = λ s t two w. (inner_held block all laid s t (member s two.first) (member t two.second) two.differ w).takes.left;
    covers = λ u t two met outside. covering u t (comes block all laid low u t (member u two.first) (member t two.second) two.differ met outside);
    needs_some = λ c h. let p = placed_of c h in subst (λ (x : Clause). (i : ℕ) × Has x.req i) p.2 (some_needed p.0 p.1);
    needs_within = λ c r h k. let p = placed_of c h in subst (λ (x : Clause). r.no ≡ x.region → Within x.req r.min_right) p.2 (needed_within p.0 r p.1 (member r k));
    needs_closed = λ c t h k. let p = placed_of c h in subst (λ (x : Clause). IsUnder problem t x.region → Meets t.min_right x.req → Within t.min_left x.req × Within t.min_right x.req) p.2 (closed p.0 t p.1 (member t k));
    uses_within = λ c h. let p = placed_of c h in subst (λ (x : Clause). Within (used (map rels_of_item items) x.expr) x.req) p.2 (uses_needed p.0 p.1);
    on_uses_within = λ s i h u. on_uses s i (member s h) u;
  }
