-- The method of a step is the first of those that it allows, by the cost of the step and the rank of the method.
use Rattle.std.proofs.Common.{◌≡◌, ◌∙◌, sym, ap, ap₂, subst, refl, ℕ, ◌+◌, ◌<◌, ◌≤◌, inl, inr, Bool, true, false, not, ◌&&◌, ◌||◌, arith, List, [], ◌∷◌, ◌++◌, map, filter, length, Option, Some, None}
use Rattle.std.specs.Prelude.{IsSome, IsTrue, ◌↔◌, bit_or, is_none, is_some, nat_lt, if◌then◌else◌}
use Rattle.std.specs.List.{flat_map, list_any}
use Rattle.std.proofs.lemmas.Bool.{both_ways, cases_eq, ltb-true, ltb-false}
use Rattle.jp_problem.specs.declared.types.Problem.{Problem}
use Rattle.jp_problem.specs.declared.types.Method.{Method}
use Rattle.jp_problem.specs.declared.types.Method.TheVariants.{Nest, Hash, HashRight, Merge}
use Rattle.jp_problem.specs.declared.types.Clause.{Clause}
use Rattle.jp_problem.specs.declared.types.Special.{Special}
use Rattle.jp_problem.specs.declared.types.Stage.{Stage}
use Rattle.jp_problem.specs.declared.types.Step.{Step}
use Rattle.jp_problem.specs.declared.types.Step.TheVariants.{Inner, By}
use Rattle.jp_problem.specs.Keys.{IsAllowed, first_key, is_by_left, key_of, on_of}
use Rattle.jp_problem.specs.Problems.{join_of, problem_rels}
use Rattle.jp_problem.specs.Sets.{is_within}
use Rattle.jp_problem.specs.StepClauses.{expr_of, is_open, is_open_class, of_class, stands_alone, step_clauses, step_stage, was_there}
use Rattle.jp_cost.specs.Costs.{cost}
use Rattle.jp_search.specs.declared.table.Choice.{Choice}
use Rattle.jp_search.specs.declared.table.Found.{Found}
use Rattle.jp_search.specs.Splits.{by_key, cheaper, is_dearer, lesser, lies_in, may_have_key, method_of, stepped}
use Rattle.jp_search.specs.TreeOrder.{Then, rank}

-- ---- by the rows of the two parts

module _ (left right : ℕ) where
  abbrev pub IsNoLater : Method → Method → Type 0
  IsNoLater m n = Then (cost m left right) (cost n left right) (rank m ≤ rank n)

  itself : (m : Method) → IsNoLater m m
  itself m = inr (refl, omega arith)

  through : (m n o : Method) → IsNoLater m n → IsNoLater n o → IsNoLater m o
  through m n o (inl p) (inl q) = inl (omega (arith, p, q))
  through m n o (inl p) (inr q) = inl (omega (arith, p, q.0))
  through m n o (inr p) (inl q) = inl (omega (arith, p.0, q))
  through m n o (inr p) (inr q) = inr (p.0 ∙ q.0, omega (arith, p.1, q.1))

  cheaper_of : (P : Method → Type 0) (m n : Method) → P m → P n → P (cheaper left right m n)
  cheaper_of P m n p q = go (nat_lt (cost n left right) (cost m left right))
    where
      go : (t : Bool) → P (if t then n else m)
      go true = q
      go false = p

  cheaper_first : (m n : Method) → rank m ≤ rank n → IsNoLater (cheaper left right m n) m × IsNoLater (cheaper left right m n) n
  cheaper_first m n low = go (nat_lt (cost n left right) (cost m left right)) refl
    where
      go : (t : Bool) → nat_lt (cost n left right) (cost m left right) ≡ t → IsNoLater (if t then n else m) m × IsNoLater (if t then n else m) n
      go true less = (inl (ltb-true (cost n left right) (cost m left right) less), itself n)
      go false more = (itself m, elim (cases_eq (cost m left right) (cost n left right)) [ inl same ↦ inr (same, low) | inr differ ↦ inl (omega (arith, differ, ltb-false (cost n left right) (cost m left right) more)) ])

  least_rank : (m : Method) → rank Nest ≤ rank m
  least_rank m = omega arith

  abbrev hashed : Bool → Method
  hashed by_left = if by_left then cheaper left right Hash HashRight else Hash

  hashed_rank : (by_left : Bool) → rank (hashed by_left) ≤ rank Merge
  hashed_rank true = cheaper_of (λ m. rank m ≤ 3) Hash HashRight (omega arith) (omega arith)
  hashed_rank false = omega arith

  hashed_first : (by_left : Bool) → IsNoLater (hashed by_left) Hash × (by_left ≡ true → IsNoLater (hashed by_left) HashRight)
  hashed_first true = let first = cheaper_first Hash HashRight (omega arith) in (first.0, λ e. first.1)
  hashed_first false = (itself Hash, λ e. absurd (both_ways false refl e))

  keyed_first : (by_left : Bool) → IsNoLater (by_key by_left left right) Hash × (by_left ≡ true → IsNoLater (by_key by_left left right) HashRight) × IsNoLater (by_key by_left left right) Merge
  keyed_first by_left =
      let first = cheaper_first (hashed by_left) Merge (hashed_rank by_left) in
      let among = hashed_first by_left in
      (through (by_key by_left left right) (hashed by_left) Hash first.0 among.0, (λ e. through (by_key by_left left right) (hashed by_left) HashRight first.0 (among.1 e)), first.1)

-- ---- the methods of a step

pub lacks_key : {X : Type 0} (o : Option X) (b : Bool) → IsTrue b ↔ IsSome o → b ≡ false → is_some o ≡ false
lacks_key (Some x) b says e = absurd (both_ways b e (says.1 refl))
lacks_key None b says e = refl

module _ (problem : Problem) (left right : ℕ) (kind : Step) (rows others : ℕ) where
  abbrev keyed : Method
  keyed = by_key (is_by_left problem kind) rows others

  abbrev pub method : Method
  method = method_of problem left right kind rows others

  with_key : is_some (key_of problem left right kind) ≡ true → method ≡ cheaper rows others Nest keyed
  unfolding method_of
  with_key e = ap (λ b. if b then cheaper rows others Nest keyed else Nest) e

  without_key : is_some (key_of problem left right kind) ≡ false → method ≡ Nest
  unfolding method_of
  without_key e = ap (λ b. if b then cheaper rows others Nest keyed else Nest) e

  -- with a key or without one
  module _ (P : Method → Type 0) where
    by_cases : (is_some (key_of problem left right kind) ≡ true → P (cheaper rows others Nest keyed)) → P Nest → P method
    by_cases has lacks = go (is_some (key_of problem left right kind)) refl
      where
        go : (b : Bool) → is_some (key_of problem left right kind) ≡ b → P method
        go true e = subst P (sym (with_key e)) (has e)
        go false e = subst P (sym (without_key e)) lacks

  pub method_allowed : IsAllowed problem left right kind method
  method_allowed = by_cases (IsAllowed problem left right kind) (λ e. cheaper_of rows others (IsAllowed problem left right kind) Nest keyed tt (keyed_allowed e (is_by_left problem kind) refl)) tt
    where
      keyed_allowed : IsSome (key_of problem left right kind) → (b : Bool) → is_by_left problem kind ≡ b → IsAllowed problem left right kind (by_key b rows others)
      keyed_allowed key true e = cheaper_of rows others (IsAllowed problem left right kind) (cheaper rows others Hash HashRight) Merge (cheaper_of rows others (IsAllowed problem left right kind) Hash HashRight key (key, e)) key
      keyed_allowed key false e = cheaper_of rows others (IsAllowed problem left right kind) Hash Merge key key

  -- where the step has a key, it is no later than Nest and than each that needs one
  after_key : IsSome (key_of problem left right kind) → IsNoLater rows others method Nest × IsNoLater rows others method keyed
  after_key key = subst (λ m. IsNoLater rows others m Nest × IsNoLater rows others m keyed) (sym (with_key key)) (cheaper_first rows others Nest keyed (least_rank rows others keyed))

  pub method_first : (n : Method) → IsAllowed problem left right kind n → IsNoLater rows others method n
  method_first Nest allowed = by_cases (λ m. IsNoLater rows others m Nest) (λ e. (cheaper_first rows others Nest keyed (least_rank rows others keyed)).0) (itself rows others Nest)
  method_first Hash allowed = through rows others method keyed Hash (after_key allowed).1 (keyed_first rows others (is_by_left problem kind)).0
  method_first HashRight allowed = through rows others method keyed HashRight (after_key allowed.0).1 ((keyed_first rows others (is_by_left problem kind)).1 allowed.1)
  method_first Merge allowed = through rows others method keyed Merge (after_key allowed).1 (keyed_first rows others (is_by_left problem kind)).2

-- ---- where no step has a key

is_empty : {X : Type 0} (xs : List X) → nat_lt 0 (length xs) ≡ false → xs ≡ []
is_empty [] e = refl
is_empty (x ∷ xs) e = absurd (omega (arith, ltb-false 0 (length (x ∷ xs)) e))

and_false : (a b c d : Bool) → c ≡ false → (a && (b && (c && d))) ≡ false
and_false true true c d e = ap (λ k. k && d) e
and_false true false c d e = refl
and_false false b c d e = refl

or_parts : (a b c : Bool) → (a || (b || c)) ≡ false → (a ≡ false) × (b ≡ false) × (c ≡ false)
or_parts true b c e = absurd (both_ways false refl (sym e))
or_parts false true c e = absurd (both_ways false refl (sym e))
or_parts false false c e = (refl, refl, e)

none_alone : (joins : List Special) (stage : Stage) (cs : List Clause) → list_any (lies_in stage.whole) cs ≡ false → filter (stands_alone joins stage) cs ≡ []
none_alone joins stage [] e = refl
none_alone joins stage (c ∷ cs) e = go (lies_in stage.whole c) refl e (λ h. none_alone joins stage cs h)
  where
    go : (b : Bool) → lies_in stage.whole c ≡ b → (b || list_any (lies_in stage.whole) cs) ≡ false → (list_any (lies_in stage.whole) cs ≡ false → filter (stands_alone joins stage) cs ≡ []) → filter (stands_alone joins stage) (c ∷ cs) ≡ []
    go true h e rest = absurd (both_ways false refl (sym e))
    go false h e rest =
        ap (λ b. if b then c ∷ filter (stands_alone joins stage) cs else filter (stands_alone joins stage) cs) (and_false (is_none c.class) (is_open joins stage.whole c.region) (is_within c.req stage.whole) (not (was_there stage c.req)) h)
        ∙ rest e

module _ (problem : Problem) (left right : ℕ) (none : may_have_key problem (bit_or left right) ≡ false) where
  parts : (nat_lt 0 (length problem.classes) ≡ false) × (nat_lt 0 (length problem.joins) ≡ false) × (list_any (lies_in (bit_or left right)) problem.clauses ≡ false)
  unfolding may_have_key
  parts = or_parts (nat_lt 0 (length problem.classes)) (nat_lt 0 (length problem.joins)) (list_any (lies_in (bit_or left right)) problem.clauses) none

  no_clauses : step_clauses problem left right ≡ []
  no_clauses =
      ap₂ (λ classes clauses. flat_map (of_class (step_stage left right)) (filter (is_open_class problem.joins (bit_or left right)) classes) ++ map expr_of clauses)
      (is_empty problem.classes parts.0) (none_alone problem.joins (step_stage left right) problem.clauses parts.2)

  no_key : (kind : Step) → is_some (key_of problem left right kind) ≡ false
  no_key Inner = ap (λ list. is_some (first_key (problem_rels problem) left right list)) no_clauses
  no_key (By number) = ap (λ joins. is_some (first_key (problem_rels problem) left right (on_of (join_of joins number)))) (is_empty problem.joins parts.1)

-- ---- the answers of a step

module _ (problem : Problem) (left right : ℕ) (kind : Step) (a b : Found) where
  abbrev by_method : Method → Choice
  by_method m = stepped m kind a b

  abbrev best : Choice
  best = by_method (method_of problem left right kind a.rows b.rows)

  abbrev other : Method
  other = by_key (is_by_left problem kind) a.rows b.rows

  same_step : (least : Option Choice) (c : Choice) (m : Method) → c ≡ by_method m → method_of problem left right kind a.rows b.rows ≡ m → lesser least (Some c) ≡ lesser least (Some best)
  same_step least c m is e = ap (λ x. lesser least (Some x)) (is ∙ ap by_method (sym e))

  nest_stays : cost Nest a.rows b.rows ≤ cost other a.rows b.rows → cheaper a.rows b.rows Nest other ≡ Nest
  nest_stays low = go (nat_lt (cost other a.rows b.rows) (cost Nest a.rows b.rows)) refl
    where
      go : (t : Bool) → nat_lt (cost other a.rows b.rows) (cost Nest a.rows b.rows) ≡ t → (if t then other else Nest) ≡ Nest
      go true less = absurd (omega (arith, low, ltb-true (cost other a.rows b.rows) (cost Nest a.rows b.rows) less))
      go false more = refl

  other_wins : cost other a.rows b.rows < cost Nest a.rows b.rows → cheaper a.rows b.rows Nest other ≡ other
  other_wins less = go (nat_lt (cost other a.rows b.rows) (cost Nest a.rows b.rows)) refl
    where
      go : (t : Bool) → nat_lt (cost other a.rows b.rows) (cost Nest a.rows b.rows) ≡ t → (if t then other else Nest) ≡ other
      go true e = refl
      go false more = absurd (omega (arith, less, ltb-false (cost other a.rows b.rows) (cost Nest a.rows b.rows) more))

  pub without_any : (least : Option Choice) (nest : Choice) → nest ≡ by_method Nest → may_have_key problem (bit_or left right) ≡ false → lesser least (Some nest) ≡ lesser least (Some best)
  without_any least nest is none = same_step least nest Nest is (without_key problem left right kind a.rows b.rows (no_key problem left right none kind))

  module _ (least : Option Choice) (nest keyed : Choice) (m : Method) (nest_is : nest ≡ by_method Nest) (m_is : m ≡ other) (keyed_is : keyed ≡ by_method m) where
    keyed_by : keyed ≡ by_method other
    keyed_by = keyed_is ∙ ap by_method m_is

    costs_nest : nest.cost ≡ a.cost + b.cost + cost Nest a.rows b.rows
    costs_nest = ap (λ (c : Choice). c.cost) nest_is

    costs_keyed : keyed.cost ≡ a.cost + b.cost + cost other a.rows b.rows
    costs_keyed = ap (λ (c : Choice). c.cost) keyed_by

    pub no_dearer : nest.cost ≤ keyed.cost → lesser least (Some nest) ≡ lesser least (Some best)
    no_dearer low = same_step least nest Nest nest_is (by_cases problem left right kind a.rows b.rows (λ x. x ≡ Nest) (λ e. nest_stays (omega (arith, low, costs_nest, costs_keyed))) refl)

    pub has_none : is_some (key_of problem left right kind) ≡ false → lesser least (Some nest) ≡ lesser least (Some best)
    has_none e = same_step least nest Nest nest_is (without_key problem left right kind a.rows b.rows e)

    pub by_its_key : keyed.cost < nest.cost → is_some (key_of problem left right kind) ≡ true → lesser least (Some keyed) ≡ lesser least (Some best)
    by_its_key less e = same_step least keyed other keyed_by (with_key problem left right kind a.rows b.rows e ∙ other_wins (omega (arith, less, costs_nest, costs_keyed)))

    -- dearer than the least so far by each method
    pub passed_over : keyed.cost < nest.cost → is_dearer keyed.cost least ≡ true → lesser least (Some keyed) ≡ lesser least (Some best)
    passed_over less dear = go least dear
      where
        more : keyed.cost ≤ best.cost
        more = by_cases problem left right kind a.rows b.rows (λ x. keyed.cost ≤ (by_method x).cost)
            (λ e. cheaper_of a.rows b.rows (λ x. keyed.cost ≤ (by_method x).cost) Nest other (omega (arith, less, costs_nest)) (omega (arith, costs_keyed)))
            (omega (arith, less, costs_nest))

        go : (o : Option Choice) → is_dearer keyed.cost o ≡ true → lesser o (Some keyed) ≡ lesser o (Some best)
        go None e = absurd (both_ways false refl e)
        go (Some c) e = kept keyed (ltb-true c.cost keyed.cost e) ∙ sym (kept best (omega (arith, more, ltb-true c.cost keyed.cost e)))
          where
            kept : (x : Choice) → c.cost < x.cost → lesser (Some c) (Some x) ≡ Some c
            kept x low = by (nat_lt c.cost x.cost) refl
              where
                by : (t : Bool) → nat_lt c.cost x.cost ≡ t → (if t then Some c else Some x) ≡ Some c
                by true e = refl
                by false more = absurd (omega (arith, low, ltb-false c.cost x.cost more))
