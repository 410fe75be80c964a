-- Constants that are carried into joins, and all regions one by one: each clause needs what the conditions ask.
use Rattle.std.proofs.Common.{◌∙◌, ◌≡◌, sym, subst, refl, ℕ, inl, inr, Bool, true, false, not, ◌&&◌, List, [], ◌∷◌, ◌++◌, filter, length, Option, Some, None}
use Rattle.std.specs.Prelude.{fold, if◌then◌else◌}
use Rattle.std.proofs.lemmas.Bool.{and_parts}
use Rattle.jp_base.specs.Sets.{Within, IsEmpty}
use Rattle.jp_base.proofs.MaskAlgebra.{left_within, right_within, both_within}
use Rattle.jp_facts.proofs.Members.{In, from_append, from_filter, from_flat_map}
use Rattle.jp_query.specs.declared.Expr.{Expr}
use Rattle.jp_problem.specs.declared.types.Class.{Class}
use Rattle.jp_problem.specs.declared.types.Clause.{Clause}
use Rattle.jp_problem.specs.declared.types.Outline.{Outline}
use Rattle.jp_problem.specs.declared.types.Special.{Special}
use Rattle.jp_problem.specs.Blocks.{used, used_by}
use Rattle.jp_problem.specs.Classes.{classes_of, new_clause, derived_from, constant_with, lies_in, carried_to, carried_by, turned, carried_sides, carried_member, carried_into, is_join_in, carried_from, Derived, with_region}
use Rattle.jp_problem.specs.Closure.{IsClosedUnder}
use Rattle.jp_problem.specs.Equalities.{Sides, sides_of, equals}
use Rattle.jp_problem.specs.MinimumSets.{stands_in, taken_by_right, taken_in_side, clause_needs, specials_in}
use Rattle.jp_problem.specs.Problems.{region_items}
use Rattle.jp_problem.specs.Sets.{is_within, is_empty, or_if_empty, span}
use Rattle.jp_problem.proofs.SetTests.{is_within_says, not_empty_says}
use Rattle.jp_conditions.proofs.Bounds.{Laid, written_items, one_join}
use Rattle.jp_conditions.proofs.Closures.{holds_seed, closed_at, least_of, each_rule, rule_of}
use Rattle.jp_conditions.proofs.Covering.{typed_on}
use Rattle.jp_conditions.proofs.Laying.{condition_at}
use Rattle.jp_base.specs.declared.values.Ty.{Ty}
use Rattle.jp_query.specs.Typing.{type_of}
use Rattle.jp_conditions.proofs.Deriving.{Good, Listed, under_stands, classes_good, derived_good, constant_empty}
use Rattle.jp_conditions.proofs.Equal.{Compared, compared, comparable, sides_use, equals_hold, equals_uses}
use Rattle.jp_conditions.proofs.Items.{used_member}
use Rattle.jp_conditions.proofs.Meeting.{region_side}
use Rattle.jp_conditions.proofs.Nesting.{captured, join_at}
use Rattle.jp_conditions.proofs.Rules.{right_rules_of}
use Rattle.jp_conditions.proofs.SetForms.{or_holds, or_some, or_held}
use Rattle.jp_conditions.proofs.SetForms as forms

module _ (block : Outline) (laid : Laid block (span 0 (length block.rels))) where
  abbrev all : ℕ
  all = span 0 (length block.rels)

  abbrev joins : List Special
  joins = specials_in block

  abbrev rels : List ℕ
  rels = block.rels

  abbrev side : ℕ → ℕ
  side region = region_items all joins region

  -- a constant for an expression of the ON list of s that uses items of its right side alone
  carried_clause : (s : Special) (right k : Expr) → In s joins → Within (used rels right) (used_by rels s.on) → lies_in rels s.syn_right right ≡ true → IsEmpty (used rels k) → (t : Ty) → type_of right ≡ Some t → type_of k ≡ Some t → Good block laid (new_clause s.no (clause_needs joins s.syn_right (used rels (equals right k))) (equals right k))
  carried_clause s right k h spoken lies empty t of_right of_k =
      let parts = and_parts (not (is_empty (used rels right))) (is_within (used rels right) s.syn_right) lies in
      let on_right = (is_within_says (used rels right) s.syn_right).0 parts.1 in
      let held : Within (used rels right) s.min_right = λ i p. (right_rules_of block all laid s h).uses i (spoken i p) (on_right i p) in
      let both = equals_uses rels right k s.min_right held (λ i p. absurd (empty i p)) in
      let first = (join_at block all laid s h).right_first in
      let seed = or_if_empty (used rels (equals right k)) s.syn_right in
      let some = or_some (used rels (equals right k)) s.syn_right (first.0, first.1) in
      let one = (not_empty_says (used rels right)).0 parts.0 in
      let some_used : forms.Some (used rels (equals right k)) = (one.0, (equals_hold rels right k).first one.0 one.1) in
      record {
        region = inr (s, h, refl);
        needed = record {
          some = (some.0, holds_seed (taken_in_side joins s.syn_right) seed some.0 some.1);
          within = λ r m e. subst (λ (x : Special). Within (clause_needs joins s.syn_right (used rels (equals right k))) x.min_right) (sym (one_join block all laid r s m h e))
              (least_of (taken_in_side joins s.syn_right) seed s.min_right (or_held (used rels (equals right k)) s.syn_right s.min_right some_used both) (each_rule (stands_in s.syn_right) taken_by_right joins (IsClosedUnder s.min_right) (λ t m e met. let took = captured block all laid s t h m ((is_within_says (written_items t) s.syn_right).0 e) met in both_within t.min_left t.min_right s.min_right took.left took.right)));
          closed = λ t m under met.
              let stands = subst (Within (written_items t)) (region_side block laid s.no s h refl) (under_stands block laid t s.no m under) in
              let took = closed_at (taken_in_side joins s.syn_right) seed (taken_by_right t) (rule_of (stands_in s.syn_right) taken_by_right joins t m ((is_within_says (written_items t) s.syn_right).1 stands)) (met.0, met.2, met.1) in
              (left_within t.min_left t.min_right (clause_needs joins s.syn_right (used rels (equals right k))) took, right_within t.min_left t.min_right (clause_needs joins s.syn_right (used rels (equals right k))) took);
        };
        uses = λ i p. holds_seed (taken_in_side joins s.syn_right) seed i (or_holds (used rels (equals right k)) s.syn_right i p);
        typed = comparable right k t of_right of_k;
      }

  module _ (classes : List Class) (empty : (e k : Expr) → constant_with classes e ≡ Some k → IsEmpty (used rels k) × (type_of k ≡ type_of e)) where
    carried_one : (s : Special) (sides : Sides) → In s joins → Within (used rels sides.second) (used_by rels s.on) → Compared sides.first sides.second → (c : Clause) → In c (carried_by rels joins classes s sides) → Good block laid c
    carried_one s sides h spoken types c m = by (lies_in rels s.syn_left sides.first && lies_in rels s.syn_right sides.second) refl m
      where
        made : (o : Option Expr) → constant_with classes sides.first ≡ o → lies_in rels s.syn_right sides.second ≡ true → In c (carried_to rels joins s sides.second o) → Good block laid c
        made (Some k) e lies (inl is) = subst (Good block laid) is (let facts = empty sides.first k e in carried_clause s sides.second k h spoken lies facts.0 types.type types.second (facts.1 ∙ types.first))
        made (Some k) e lies (inr gone) = absurd gone
        made None e lies gone = absurd gone

        by : (b : Bool) → (lies_in rels s.syn_left sides.first && lies_in rels s.syn_right sides.second) ≡ b → In c (if b then carried_to rels joins s sides.second (constant_with classes sides.first) else []) → Good block laid c
        by true e k = made (constant_with classes sides.first) refl (and_parts (lies_in rels s.syn_left sides.first) (lies_in rels s.syn_right sides.second) e).1 k
        by false e gone = absurd gone

    carried_both : (s : Special) (e : Expr) → In s joins → In e s.on → (c : Clause) → In c (carried_member rels joins classes s e) → Good block laid c
    carried_both s e h on c m = by (sides_of e) refl m
      where
        spoken : Within (used rels e) (used_by rels s.on)
        spoken = used_member rels s.on e on

        by : (o : Option Sides) → sides_of e ≡ o → In c (carried_sides rels joins classes s o) → Good block laid c
        by None found gone = absurd gone
        by (Some sides) found k =
            let uses = sides_use rels e sides found in
            let types = compared e sides found (condition_at s.on e (typed_on block all laid s h) on) in
            elim (from_append c (carried_by rels joins classes s sides) (carried_by rels joins classes s (turned sides)) k) [
              | inl p ↦ carried_one s sides h (λ i q. spoken i (uses.second i q)) types c p
              | inr p ↦ carried_one s (turned sides) h (λ i q. spoken i (uses.first i q)) (record { type = types.type; first = types.second; second = types.first }) c p
            ]

    carried_good : (region : ℕ) (c : Clause) → In c (carried_from rels joins classes region) → Good block laid c
    carried_good region c h =
        let s = from_flat_map (carried_into rels joins classes) c (filter (is_join_in region) joins) h in
        let known = (from_filter (is_join_in region) s.0 joins s.1).1 in
        let e = from_flat_map (carried_member rels joins classes s.0) c s.0.on s.2 in
        carried_both s.0 e.0 known e.1 c e.2

  -- ---- region by region

  -- its clauses are good and the expressions of its classes typed
  pub record AllGood (d : Derived) : Type 0 where
    pub clauses : (c : Clause) → In c d.clauses → Good block laid c
    pub classes : (class : Class) (x : Expr) → In class d.classes → Listed block laid 0 [] class x → (t : Ty) × (type_of x ≡ Some t)

  region_good : (d : Derived) (region : ℕ) → AllGood d → AllGood (with_region rels joins d region)
  region_good d region good =
      let classes = classes_of rels joins d.clauses region (side region) in
      let each = classes_good block laid region d.clauses good.clauses in
      record {
        clauses = λ c h. elim (from_append c (d.clauses ++ derived_from d.clauses classes) (carried_from rels joins classes region) h) [
          | inr k ↦ carried_good classes (constant_empty block laid region d.clauses classes each) region c k
          | inl k ↦ elim (from_append c d.clauses (derived_from d.clauses classes) k) [
            | inl m ↦ good.clauses c m
            | inr m ↦ derived_good block laid region d.clauses classes each c m
          ]
        ];
        classes = λ class x h l. elim (from_append class d.classes classes h) [ inl k ↦ good.classes class x k l | inr k ↦ (each class k).typed x l ];
      }

  pub regions_good : (regions : List ℕ) (d : Derived) → AllGood d → AllGood (fold (with_region rels joins) d regions)
  regions_good [] d good = good
  regions_good (region ∷ regions) d good = regions_good regions (with_region rels joins d region) (region_good d region good)
