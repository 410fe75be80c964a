-- The clauses that follow from the classes of a region need what the conditions ask.
use Rattle.std.proofs.Common.{ap, ◌∙◌, ◌≡◌, sym, subst, refl, ℕ, ◌⊎◌, inl, inr, Bool, true, false, not, List, [], ◌∷◌, ◌++◌, map, filter, length, eqb-true, Option, Some, None}
use Rattle.std.specs.Prelude.{bit_or, fold, ◌==◌, max, min, Contains, if◌then◌else◌}
use Rattle.std.specs.List.{flat_map, list_any}
use Rattle.std.proofs.lemmas.Bool.{not-true, and_parts}
use Rattle.jp_base.specs.Sets.{Within, Meets, IsEmpty}
use Rattle.jp_base.proofs.SetLemmas.{has_or}
use Rattle.jp_base.proofs.MaskAlgebra.{in_left, in_right, left_within, right_within, both_within}
use Rattle.jp_facts.proofs.Members.{In, from_append, from_map, from_filter, from_flat_map, from_any, to_in, from_in}
use Rattle.jp_query.specs.declared.Expr.{Expr}
use Rattle.jp_problem.specs.declared.types.Class.{Class}
use Rattle.jp_problem.specs.declared.types.Clause.{Clause}
use Rattle.jp_problem.specs.declared.types.Outline.{Outline}
use Rattle.jp_problem.specs.declared.types.Special.{Special}
use Rattle.jp_problem.specs.Blocks.{used}
use Rattle.jp_problem.specs.Classes.{Grouped, is_entry_of, with_expr, group_of, moved, with_equality, is_constant, is_constant_of, is_in_group, is_absorbed, absorb_sides, absorb, is_clause_in, groups_of, firsts_from, grouped_expr, head_of, is_member_of, member_of, class_of, classes_of, new_clause, with_member, to_constant, equalities_from, equalities_of, is_no_clause_yet, derived_from, is_member, constant_with}
use Rattle.jp_problem.specs.Closure.{IsClosedUnder}
use Rattle.jp_problem.specs.Equalities.{Sides, sides_of, equals, has_sublink}
use Rattle.jp_problem.specs.Legal.{IsInside}
use Rattle.jp_problem.specs.MinimumSets.{stands_in, taken_by_right, taken_in_side, requirement, specials_in}
use Rattle.jp_problem.specs.Problems.{region_items}
use Rattle.jp_problem.specs.Sets.{span}
use Rattle.jp_problem.proofs.SetTests.{is_within_says, is_empty_says, not_empty_says}
use Rattle.jp_conditions.proofs.Bounds.{Laid, written_items, one_join, stands_at}
use Rattle.jp_conditions.proofs.Closures.{holds_seed, closed_at, least_of, each_rule, rule_of}
use Rattle.jp_conditions.proofs.GroupTypes.{Kinds, no_kinds, equality_kinds}
use Rattle.jp_conditions.proofs.WithoutSublinks.{plain_same}
use Rattle.jp_base.specs.declared.values.Ty.{Ty}
use Rattle.jp_base.specs.declared.values.Ty.TheVariants as ty
use Rattle.jp_query.specs.Typing.{is_of, type_of}
use Rattle.jp_conditions.proofs.Equal.{compared, comparable, sides_use, equals_uses}
use Rattle.jp_conditions.proofs.Meeting.{region_side}
use Rattle.jp_conditions.proofs.Nesting.{captured, inner_held, not_in_itself}
use Rattle.jp_conditions.proofs.SetForms.{or_holds, or_some, or_held}
use Rattle.jp_conditions.proofs.SetForms as forms
use Rattle.jp_conditions.proofs.Sources.{special_sides}

module _ (block : Outline) (laid : Laid block (span 0 (length block.rels))) where
  abbrev all : ℕ
  all = span 0 (length block.rels)

  abbrev joins : List Special
  joins = specials_in block

  abbrev rels : List ℕ
  rels = block.rels

  -- the items of a region
  abbrev side : ℕ → ℕ
  side region = region_items all joins region

  -- the join stands under the region
  abbrev pub Under : Special → ℕ → Type 0
  Under t region = (region ≡ 0) ⊎ ((r : Special) × Contains joins r × (r.no ≡ region) × IsInside t r)

  -- a set that a clause of the region may need
  pub record Needed (region set : ℕ) : Type 0 where
    pub some : forms.Some set
    pub within : (r : Special) → In r joins → r.no ≡ region → Within set r.min_right
    pub closed : (t : Special) → In t joins → Under t region → Meets t.min_right set → Within t.min_left set × Within t.min_right set

  pub record Good (c : Clause) : Type 0 where
    pub region : (c.region ≡ 0) ⊎ ((r : Special) × In r joins × (r.no ≡ c.region))
    pub needed : Needed c.region c.req
    pub uses : Within (used rels c.expr) c.req
    pub typed : is_of ty.Boolean (type_of c.expr) ≡ true

  -- ---- standing under a region, and standing among its items

  pub under_stands : (t : Special) (region : ℕ) → In t joins → Under t region → Within (written_items t) (side region)
  under_stands t region h (inl e) = subst (λ n. Within (written_items t) (side n)) (sym e) (laid.standing.within (special_sides t) (stands_at block all laid t h))
  under_stands t region h (inr r) =
      let k = to_in r.0 joins r.1 in
      let held = inner_held block all laid t r.0 h k (λ e. not_in_itself block all laid t h (subst (λ (x : Special). Within t.min_left x.min_right) (one_join block all laid r.0 t k h (sym e)) r.3.left)) r.3.right in
      subst (Within (written_items t)) (sym (region_side block laid region r.0 k r.2)) held.stands

  stands_under : (t : Special) (region set : ℕ) → In t joins → (region ≡ 0) ⊎ ((r : Special) × In r joins × (r.no ≡ region)) → Needed region set → Within (written_items t) (side region) → Meets set t.min_right → Under t region
  stands_under t region set h (inl e) needed w met = inl e
  stands_under t region set h (inr r) needed w met =
      let took = captured block all laid r.0 t r.1 h (subst (Within (written_items t)) (region_side block laid region r.0 r.1 r.2) w) (met.0, needed.within r.0 r.1 r.2 met.0 met.1, met.2) in
      inr (r.0, from_in r.0 joins r.1, r.2, record { left = took.left; right = took.right })

  -- ---- requirements of expressions that a clause of the region uses

  module _ (region : ℕ) (known : (region ≡ 0) ⊎ ((r : Special) × In r joins × (r.no ≡ region))) (set x : ℕ) (needed : Needed region set) (inside : Within x set) (some : forms.Some x) where
    required_within : Within (requirement joins (side region) x) set
    required_within = least_of (taken_in_side joins (side region)) x set inside (each_rule (stands_in (side region)) taken_by_right joins (IsClosedUnder set) (λ t h e met.
        let took = needed.closed t h (stands_under t region set h known needed ((is_within_says (written_items t) (side region)).0 e) met) (met.0, met.2, met.1) in
        both_within t.min_left t.min_right set took.0 took.1))

    pub required : Needed region (requirement joins (side region) x)
    required = record {
      some = (some.0, holds_seed (taken_in_side joins (side region)) x some.0 some.1);
      within = λ r h e i p. needed.within r h e i (required_within i p);
      closed = λ t h under met.
          let took = closed_at (taken_in_side joins (side region)) x (taken_by_right t) (rule_of (stands_in (side region)) taken_by_right joins t h ((is_within_says (written_items t) (side region)).1 (under_stands t region h under))) (met.0, met.2, met.1) in
          (left_within t.min_left t.min_right (requirement joins (side region) x) took, right_within t.min_left t.min_right (requirement joins (side region) x) took);
    }

  -- the union of two needed sets is one
  two_needed : (region a b : ℕ) → Needed region a → Needed region b → Needed region (bit_or a b)
  two_needed region a b p q = record {
    some = (p.some.0, in_left a b p.some.0 p.some.1);
    within = λ r h e. both_within a b r.min_right (p.within r h e) (q.within r h e);
    closed = λ t h under met. elim ((has_or a b met.0).0 met.2) [
      | inl m ↦ (let took = p.closed t h under (met.0, met.1, m) in (λ i k. in_left a b i (took.0 i k), λ i k. in_left a b i (took.1 i k)))
      | inr m ↦ (let took = q.closed t h under (met.0, met.1, m) in (λ i k. in_right a b i (took.0 i k), λ i k. in_right a b i (took.1 i k)))
    ];
  }

  -- ---- groups: each expression is a side of a clause of the region

  abbrev Grown : ℕ → List Clause → Grouped → Type 0
  Grown region cs g = (d : Clause) × In d cs × (d.region ≡ region) × Within (used rels g.expr) (used rels d.expr)

  AllGrown : ℕ → List Clause → List Grouped → Type 0
  AllGrown region cs groups = (g : Grouped) → In g groups → Grown region cs g

  module _ (region : ℕ) (cs : List Clause) where
    abbrev Each : List Grouped → Type 0
    Each groups = (g : Grouped) → In g groups → Grown region cs g

    with_one : (groups : List Grouped) (e : Expr) → Each groups → ((n : ℕ) → Grown region cs (record { expr = e; group = n })) → Each (with_expr groups e)
    with_one groups e each new = by (list_any (is_entry_of e) groups)
      where
        by : (b : Bool) → Each (if b then groups else groups ++ record { expr = e; group = length groups } ∷ [])
        by true = each
        by false = λ g h. elim (from_append g groups (record { expr = e; group = length groups } ∷ []) h) [
          | inl k ↦ each g k
          | inr k ↦ elim k [ inl same ↦ subst (Grown region cs) same (new (length groups)) | inr gone ↦ absurd gone ]
        ]

    moved_grown : (from into : ℕ) (g : Grouped) → Grown region cs g → Grown region cs (moved from into g)
    moved_grown from into g h = by (g.group == from)
      where
        by : (b : Bool) → Grown region cs (if b then record g { group = into } else g)
        by true = h
        by false = h

    with_both : (groups : List Grouped) (c : Clause) (sides : Sides) → In c cs → c.region ≡ region → sides_of c.expr ≡ Some sides → Each groups → Each (with_equality groups sides)
    with_both groups c sides h e found each g k =
        let uses = sides_use rels c.expr sides found in
        let one = with_one groups sides.first each (λ n. (c, h, e, uses.first)) in
        let two = with_one (with_expr groups sides.first) sides.second one (λ n. (c, h, e, uses.second)) in
        let both = with_expr (with_expr groups sides.first) sides.second in
        let a = group_of both sides.first in
        let b = group_of both sides.second in
        let origin = from_map (moved (max a b) (min a b)) g both k in
        subst (Grown region cs) origin.2 (moved_grown (max a b) (min a b) origin.0 (two origin.0 origin.1))

    absorbed : (groups : List Grouped) (c : Clause) → In c cs → c.region ≡ region → Each groups → Each (absorb rels groups c)
    absorbed groups c h e each = by (sides_of c.expr) refl
      where
        taken_in : (sides : Sides) → sides_of c.expr ≡ Some sides → (b : Bool) → Each (if b then with_equality groups sides else groups)
        taken_in sides found true = with_both groups c sides h e found each
        taken_in sides found false = each

        by : (o : Option Sides) → sides_of c.expr ≡ o → Each (absorb_sides rels groups o)
        by (Some sides) found = taken_in sides found (is_absorbed rels groups sides)
        by None found = each

    all_absorbed : (ds : List Clause) (groups : List Grouped) → ((c : Clause) → In c ds → In c cs × (c.region ≡ region)) → Each groups → Each (fold (absorb rels) groups ds)
    all_absorbed [] groups sub each = each
    all_absorbed (c ∷ ds) groups sub each = all_absorbed ds (absorb rels groups c) (λ d m. sub d (inr m)) (absorbed groups c (sub c (inl refl)).0 (sub c (inl refl)).1 each)

    -- the groups have types, as each clause is typed
    module _ (typed : (c : Clause) → In c cs → is_of ty.Boolean (type_of c.expr) ≡ true) where
      absorbed_kinds : (groups : List Grouped) (c : Clause) → In c cs → Kinds groups → Kinds (absorb rels groups c)
      absorbed_kinds groups c h kinds = by (sides_of c.expr) refl
        where
          taken_in : (sides : Sides) → sides_of c.expr ≡ Some sides → (b : Bool) → is_absorbed rels groups sides ≡ b → Kinds (if b then with_equality groups sides else groups)
          taken_in sides found true e =
              let first = and_parts (not (has_sublink sides.first)) _ e in
              let second = and_parts (not (has_sublink sides.second)) _ first.1 in
              equality_kinds groups sides kinds (compared c.expr sides found (typed c h)) (not-true (has_sublink sides.first) first.0) (not-true (has_sublink sides.second) second.0)
          taken_in sides found false e = kinds

          by : (o : Option Sides) → sides_of c.expr ≡ o → Kinds (absorb_sides rels groups o)
          by (Some sides) found = taken_in sides found (is_absorbed rels groups sides) refl
          by None found = kinds

      all_kinds : (ds : List Clause) (groups : List Grouped) → ((c : Clause) → In c ds → In c cs) → Kinds groups → Kinds (fold (absorb rels) groups ds)
      all_kinds [] groups sub kinds = kinds
      all_kinds (c ∷ ds) groups sub kinds = all_kinds ds (absorb rels groups c) (λ d m. sub d (inr m)) (absorbed_kinds groups c (sub c (inl refl)) kinds)

      kinds_of : Kinds (groups_of rels cs region)
      kinds_of = all_kinds (filter (is_clause_in region) cs) [] (λ c h. (from_filter (is_clause_in region) c cs h).1) no_kinds

    grown : Each (groups_of rels cs region)
    grown = all_absorbed (filter (is_clause_in region) cs) [] (λ c h. let f = from_filter (is_clause_in region) c cs h in (f.1, eqb-true c.region region f.0)) (λ g h. absurd h)

    -- ---- classes: what each member needs, and a constant that uses nothing

    -- a member or the constant of the class
    abbrev pub Listed : Class → Expr → Type 0
    Listed class x = ((m : Expr × ℕ) × In m class.members × (m.0 ≡ x)) ⊎ (class.constant ≡ Some x)

    pub record GoodMember (m : Expr × ℕ) : Type 0 where
      pub known : (region ≡ 0) ⊎ ((r : Special) × In r joins × (r.no ≡ region))
      pub needed : Needed region m.1
      pub uses : Within (used rels m.0) m.1

    pub record GoodClass (class : Class) : Type 0 where
      pub kind : (x y : Expr) → Listed class x → Listed class y → type_of x ≡ type_of y
      pub typed : (x : Expr) → Listed class x → (t : Ty) × (type_of x ≡ Some t)
      pub plain : (m : Expr × ℕ) → In m class.members → has_sublink m.0 ≡ false
      pub region_is : class.region ≡ region
      pub constant : (k : Expr) → class.constant ≡ Some k → IsEmpty (used rels k)
      pub members : (m : Expr × ℕ) → In m class.members → GoodMember m

    head_in : (xs : List Expr) (k : Expr) → head_of xs ≡ Some k → In k xs
    head_in [] k e = cc
    head_in (x ∷ xs) k e = inl (same x k e)
      where
        same : (a b : Expr) → Some a ≡ Some b → a ≡ b
        same a b e = cc

    module _ (good : (c : Clause) → In c cs → Good c) where
      member_good : (g : Grouped) → Grown region cs g → not (is_constant rels g.expr) ≡ true → GoodMember (member_of rels joins (side region) g)
      member_good g h uses_some =
          let d = good h.0 h.1 in
          let needed = subst (λ n. Needed n h.0.req) h.2 d.needed in
          let known = subst (λ n. (n ≡ 0) ⊎ ((r : Special) × In r joins × (r.no ≡ n))) h.2 d.region in
          record {
            known = known;
            needed = required region known h.0.req (used rels g.expr) needed (λ i p. d.uses i (h.3 i p)) ((not_empty_says (used rels g.expr)).0 uses_some);
            uses = holds_seed (taken_in_side joins (side region)) (used rels g.expr);
          }

      typed_clauses : (c : Clause) → In c cs → is_of ty.Boolean (type_of c.expr) ≡ true
      typed_clauses c h = (good c h).typed

      kinds : Kinds (groups_of rels cs region)
      kinds = kinds_of typed_clauses

      -- where a listed expression stands among the groups
      origin : (group : ℕ) (x : Expr) → Listed (class_of rels joins region (side region) (groups_of rels cs region) group) x → (g : Grouped) × In g (groups_of rels cs region) × (g.group ≡ group) × (g.expr ≡ x)
      origin group x (inl m) =
          let found = from_map (member_of rels joins (side region)) m.0 (filter (is_member_of rels group) (groups_of rels cs region)) m.1 in
          let facts = from_filter (is_member_of rels group) found.0 (groups_of rels cs region) found.1 in
          (found.0, facts.1, eqb-true found.0.group group (and_parts (is_in_group group found.0) (not (is_constant rels found.0.expr)) facts.0).0, ap (λ (p : Expr × ℕ). p.0) found.2 ∙ m.2)
      origin group x (inr e) =
          let found = from_map grouped_expr x (filter (is_constant_of rels group) (groups_of rels cs region)) (head_in (map grouped_expr (filter (is_constant_of rels group) (groups_of rels cs region))) x e) in
          let facts = from_filter (is_constant_of rels group) found.0 (groups_of rels cs region) found.1 in
          (found.0, facts.1, eqb-true found.0.group group (and_parts (is_in_group group found.0) (is_constant rels found.0.expr) facts.0).0, found.2)

      class_good : (group : ℕ) → GoodClass (class_of rels joins region (side region) (groups_of rels cs region) group)
      class_good group = record {
        kind = λ x y p q. let g = origin group x p in let h = origin group y q in ap type_of (sym g.3) ∙ kinds.same g.0 h.0 g.1 h.1 (g.2 ∙ sym h.2) ∙ ap type_of h.3;
        typed = λ x p. let g = origin group x p in let t = kinds.typed g.0 g.1 in (t.0, ap type_of (sym g.3) ∙ t.1);
        plain = λ m h. let g = origin group m.0 (inl (m, h, refl)) in ap has_sublink (sym g.3) ∙ kinds.plain g.0 g.1;
        region_is = refl;
        constant = λ k e.
            let found = from_map grouped_expr k (filter (is_constant_of rels group) (groups_of rels cs region)) (head_in (map grouped_expr (filter (is_constant_of rels group) (groups_of rels cs region))) k e) in
            let facts = from_filter (is_constant_of rels group) found.0 (groups_of rels cs region) found.1 in
            subst (λ x. IsEmpty (used rels x)) found.2 ((is_empty_says (used rels found.0.expr)).0 (and_parts (is_in_group group found.0) (is_constant rels found.0.expr) facts.0).1);
        members = λ m h.
            let found = from_map (member_of rels joins (side region)) m (filter (is_member_of rels group) (groups_of rels cs region)) h in
            let facts = from_filter (is_member_of rels group) found.0 (groups_of rels cs region) found.1 in
            subst GoodMember found.2 (member_good found.0 (grown found.0 facts.1) (and_parts (is_in_group group found.0) (not (is_constant rels found.0.expr)) facts.0).1);
      }

      pub classes_good : (class : Class) → In class (classes_of rels joins cs region (side region)) → GoodClass class
      classes_good class h = let found = from_map (class_of rels joins region (side region) (groups_of rels cs region)) class (firsts_from 0 (groups_of rels cs region)) h in subst GoodClass found.2 (class_good found.0)

    -- ---- the equalities of a class

    good_equality : (at : ℕ) → at ≡ region → (e : Expr) (needs : ℕ) → (region ≡ 0) ⊎ ((r : Special) × In r joins × (r.no ≡ region)) → Needed region needs → Within (used rels e) needs → is_of ty.Boolean (type_of e) ≡ true → Good (new_clause at needs e)
    good_equality at same e needs known needed uses typed = record {
      typed = typed;
      region = subst (λ n. (n ≡ 0) ⊎ ((r : Special) × In r joins × (r.no ≡ n))) (sym same) known;
      needed = subst (λ n. Needed n needs) (sym same) needed;
      uses = uses;
    }

    module _ (at : ℕ) (same : at ≡ region) (constant : Option Expr) (empty : (k : Expr) → constant ≡ Some k → IsEmpty (used rels k)) where
      -- two expressions of one type
      abbrev Alike : Expr → Expr → Type 0
      Alike x y = (t : Ty) × (type_of x ≡ Some t) × (type_of y ≡ Some t)

      constant_good : (m : Expr × ℕ) → GoodMember m → ((k : Expr) → constant ≡ Some k → Alike m.0 k) → (c : Clause) → In c (to_constant at constant m) → Good c
      constant_good m good alike c h = by constant refl h
        where
          by : (o : Option Expr) → constant ≡ o → In c (to_constant at o m) → Good c
          by (Some k) e (inl is) = subst Good is (good_equality at same (equals m.0 k) m.1 good.known good.needed (equals_uses rels m.0 k m.1 good.uses (λ i p. absurd (empty k e i p))) (let a = alike k e in comparable m.0 k a.0 a.1 a.2))
          by (Some k) e (inr gone) = absurd gone
          by None e gone = absurd gone

      pair_good : (m n : Expr × ℕ) → GoodMember m → GoodMember n → Alike m.0 n.0 → Good (with_member at m n)
      pair_good m n p q a = good_equality at same (equals m.0 n.0) (bit_or m.1 n.1) p.known (two_needed region m.1 n.1 p.needed q.needed) (equals_uses rels m.0 n.0 (bit_or m.1 n.1) (λ i h. in_left m.1 n.1 i (p.uses i h)) (λ i h. in_right m.1 n.1 i (q.uses i h))) (comparable m.0 n.0 a.0 a.1 a.2)

      equalities_good : (members : List (Expr × ℕ)) → ((m : Expr × ℕ) → In m members → GoodMember m) → ((m n : Expr × ℕ) → In m members → In n members → Alike m.0 n.0) → ((m : Expr × ℕ) (k : Expr) → In m members → constant ≡ Some k → Alike m.0 k) → (c : Clause) → In c (equalities_from at constant members) → Good c
      equalities_good [] good alike beside c h = absurd h
      equalities_good (m ∷ members) good alike beside c h = elim (from_append c (to_constant at constant m ++ map (with_member at m) members) (equalities_from at constant members) h) [
        | inr k ↦ equalities_good members (λ n p. good n (inr p)) (λ n o p q. alike n o (inr p) (inr q)) (λ n k p. beside n k (inr p)) c k
        | inl k ↦ elim (from_append c (to_constant at constant m) (map (with_member at m) members) k) [
          | inl p ↦ constant_good m (good m (inl refl)) (λ k e. beside m k (inl refl) e) c p
          | inr p ↦ (let found = from_map (with_member at m) c members p in subst Good found.2 (pair_good m found.0 (good m (inl refl)) (good found.0 (inr found.1)) (alike m found.0 (inl refl) (inr found.1))))
        ]
      ]

    pub derived_good : (classes : List Class) → ((class : Class) → In class classes → GoodClass class) → (c : Clause) → In c (derived_from cs classes) → Good c
    derived_good classes good c h =
        let f = from_filter (is_no_clause_yet cs) c (flat_map equalities_of classes) h in
        let found = from_flat_map equalities_of c classes f.1 in
        let class = found.0 in
        let g = good class found.1 in
        equalities_good class.region g.region_is class.constant g.constant class.members g.members
        (λ m n p q. let t = g.typed m.0 (inl (m, p, refl)) in (t.0, t.1, g.kind n.0 m.0 (inl (n, q, refl)) (inl (m, p, refl)) ∙ t.1))
        (λ m k p e. let t = g.typed m.0 (inl (m, p, refl)) in (t.0, t.1, g.kind k m.0 (inr e) (inl (m, p, refl)) ∙ t.1)) c found.2

    -- ---- carried constants

    pub constant_empty : (classes : List Class) → ((class : Class) → In class classes → GoodClass class) → (e k : Expr) → constant_with classes e ≡ Some k → IsEmpty (used rels k) × (type_of k ≡ type_of e)
    constant_empty [] good e k found = cc
    constant_empty (class ∷ classes) good e k found = by (list_any (is_member e) class.members) refl (constant_empty classes (λ d m. good d (inr m)) e k) found
      where
        by : (b : Bool) → list_any (is_member e) class.members ≡ b → (constant_with classes e ≡ Some k → IsEmpty (used rels k) × (type_of k ≡ type_of e)) → (if b then class.constant else constant_with classes e) ≡ Some k → IsEmpty (used rels k) × (type_of k ≡ type_of e)
        by true h later f =
            let g = good class (inl refl) in
            let m = from_any (is_member e) class.members h in
            (g.constant k f, g.kind k m.0.0 (inr f) (inl (m.0, m.1, refl)) ∙ ap type_of (plain_same m.0.0 e (g.plain m.0 m.1) m.2))
        by false h later f = later f
