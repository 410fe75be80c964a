-- What a plan's scans and steps test can be evaluated, and its steps can be run.
use Rattle.std.proofs.Common.{◌≡◌, ◌∙◌, ap, sym, subst, refl, ℕ, ◌↔◌, inl, inr, true, not, List, [], ◌∷◌, ◌++◌, map, length, Option, Some, None, IsSome, eq-eqb}
use Rattle.std.specs.Prelude.{All, is_some, if◌then◌else◌}
use Rattle.std.specs.Int.{bit_at}
use Rattle.std.specs.List.{flat_map}
use Rattle.std.specs.Option.{option_map}
use Rattle.std.proofs.lemmas.Bool.{and_parts, cases_eq, ne_eqb}
use Rattle.jp_base.specs.Sets.{Within}
use Rattle.jp_base.specs.declared.values.Ty.TheVariants as ty
use Rattle.jp_facts.proofs.Members.{In, from_in, in_append_left}
use Rattle.jp_query.specs.declared.Expr.{Expr}
use Rattle.jp_query.specs.declared.JoinKind.TheVariants as join
use Rattle.jp_query.specs.Conditions.{IsBoundedExpr}
use Rattle.jp_query.specs.Fitting.{IsCellAt, own_columns, IsLent, own_ins}
use Rattle.jp_query.specs.Meaning.{Row, Env}
use Rattle.jp_query.specs.Scopes.{Scope}
use Rattle.jp_query.specs.Tables.{TableRows, Belong, rows_of_tables}
use Rattle.jp_query.specs.Typing.{IsTypedExpr, IsBoolean, is_of, type_of}
use Rattle.jp_eval.specs.Evaluation.{CanEvaluate}
use Rattle.jp_problem.specs.declared.types.Class.{Class}
use Rattle.jp_problem.specs.declared.types.Method.{Method}
use Rattle.jp_problem.specs.declared.types.Problem.{Problem}
use Rattle.jp_problem.specs.declared.types.Special.{Special}
use Rattle.jp_problem.specs.declared.types.Stage.{Stage}
use Rattle.jp_problem.specs.declared.types.Step.{Step}
use Rattle.jp_problem.specs.declared.types.Step.TheVariants as step
use Rattle.jp_problem.specs.Blocks.{output_expr, order_expr, used}
use Rattle.jp_problem.specs.Equalities.{Sides, sides_of, equals}
use Rattle.jp_problem.specs.Keys.{is_over, key_list, key_of}
use Rattle.jp_problem.specs.Legal.{Apart, IsLegalStep}
use Rattle.jp_problem.specs.Made.{IsMade, exprs_of, item_exprs, join_exprs, class_exprs}
use Rattle.jp_problem.specs.Problems.{problem_rels, join_of}
use Rattle.jp_problem.specs.Sets.{is_within, is_empty}
use Rattle.jp_problem.specs.StepClauses.{of_class, expr_of, clauses_of_stage, scan_stage, scan_clauses}
use Rattle.jp_problem.specs.Trees.{Tree, set_of, IsLegalTree}
use Rattle.jp_problem.proofs.SetTests.{is_within_says}
use Rattle.jp_conditions.proofs.Equal.{compared, comparable}
use Rattle.jp_frame.specs.Maps.{Map, at, both, Agree}
use Rattle.jp_frame.proofs.MapLaws.{both_left, both_right}
use Rattle.jp_induction.proofs.EachPart.{Each, each_of, all_of_each, each_left, each_right, each_weaker, each_both}
use Rattle.jp_joins.specs.Conditions.{CanEvaluateAt, sides, CanTest, AreApart, CanJoin, CanLookUpBy, CanLookUp}
use Rattle.jp_joins.specs.Meant.{Meant, value_at}
use Rattle.jp_laws.proofs.ValuesFit.{is_of_some}
use Rattle.jp_lists.specs.Lists.{sublink_rows, around_block, listing, run_in}
use Rattle.jp_lists.specs.Seen.{FitsOutside, IsInside, IsTested, HasPlaces}
use Rattle.jp_lists.specs.Steps.{Run, kind_of_join, kind_of_step, filters_of, pair_of_sides, meant_of, tree_list}
use Rattle.jp_lists.proofs.Arounds.{at_in, each_from, from_each}
use Rattle.jp_lists.proofs.CellFacts.{each_at}
use Rattle.jp_lists.proofs.ClassTypes.{IsOneType, made_types}
use Rattle.jp_lists.proofs.EqualityFacts.{IsHalf, half_up, half_down}
use Rattle.jp_lists.proofs.FitLaws.{expr_fits, behind_fits, map_is_inside}
use Rattle.jp_lists.proofs.KeyFacts.{IsKeyOf, found_key, side_value}
use Rattle.jp_lists.proofs.MapFacts.{IsOver, tree_over}
use Rattle.jp_lists.proofs.SpecialKinds.{made_outer}
use Rattle.jp_lists.proofs.StageLaws.{IsPair, OfParts, class_made, flat_parts, parts_of, stage_made, list_made, filters_made, key_ok}
use Rattle.jp_tree.specs.BlockParts.{exprs_in, conditions_in, IsBlockAt}
use Rattle.jp_tree.specs.Prepared.{IsWhole, IsPlannable, IsTypedBlock, KnowsScope}
use Rattle.jp_tree.specs.declared.prepared.Block.{Block}
use Rattle.jp_tree.specs.declared.prepared.Prepared.{Prepared}

-- ---- the join of a step

found_join : (joins : List Special) (number : ℕ) (s : Special) → In s joins → s.no ≡ number → (t : Special) × In t joins × (join_of joins number ≡ Some t)
found_join [] number s h e = absurd h
found_join (x ∷ joins) number s h e = elim (cases_eq x.no number) [
  | inl same ↦ (x, inl refl, ap (λ b. if b then Some x else join_of joins number) (eq-eqb x.no number same))
  | inr other ↦ (let rest = found_join joins number s (behind other h) e in (rest.0, inr rest.1, ap (λ b. if b then Some x else join_of joins number) (ne_eqb x.no number other) ∙ rest.2))
]
  where
    behind : (x.no ≡ number → ⊥) → In s (x ∷ joins) → In s joins
    behind other (inl same) = absurd (other (ap (λ (y : Special). y.no) same ∙ e))
    behind other (inr r) = r

-- ---- maps of sets without a common item

apart_maps : (n l r : ℕ) → Apart l r → (a b : Map) → IsOver n l a → IsOver n r b → AreApart a b
apart_maps n l r apart a b p q i x y e f = elim (cases_eq (bit_at l i) 1) [
  | inl here ↦ elim (cases_eq (bit_at r i) 1) [
    | inl there ↦ apart (i, here, there)
    | inr out ↦ clash (sym (q.lies i out) ∙ f)
  ]
  | inr out ↦ clash (sym (p.lies i out) ∙ e)
]
  where
    clash : {x : ℕ} → None ≡ Some x → ⊥
    clash e = cc

module _ (prepared : Prepared) (whole : IsWhole prepared) (tables : TableRows) (number : ℕ) (block : Block) (env : Env) (belong : Belong whole.schema tables) (there : IsBlockAt prepared number block) (fits : FitsOutside prepared whole.scope number env) where
  abbrev scope : Scope
  scope = whole.scope

  abbrev Where : Env → Type 0
  Where = IsInside scope (around_block block env)

  abbrev rows : Env → ℕ → List Row
  rows = sublink_rows prepared.blocks (listing prepared (rows_of_tables tables))

  abbrev run : Run
  run = run_in prepared (rows_of_tables tables) block env

  abbrev problem : Problem
  problem = block.problem

  abbrev Half : Expr → Type 0
  Half = IsHalf whole.schema scope Where rows

  typed_block : IsTypedBlock whole.schema scope block
  typed_block = each_at (IsTypedBlock whole.schema scope) prepared.blocks number block there (each_of (IsTypedBlock whole.schema scope) prepared.blocks whole.typed)

  made : IsMade problem
  made = (each_at IsPlannable prepared.blocks number block there (each_of IsPlannable prepared.blocks whole.plannable)).made

  half_in : (e : Expr) → In e (exprs_in block) → Half e
  half_in e h = record {
    known = from_each (KnowsScope whole.schema scope) e (exprs_in block) (each_of (KnowsScope whole.schema scope) (exprs_in block) typed_block.known) h;
    bounded = from_each (IsBoundedExpr whole.schema scope) e (exprs_in block) (each_of (IsBoundedExpr whole.schema scope) (exprs_in block) typed_block.bounded) h;
    cells = λ x f. each_of (IsCellAt scope x) (own_columns e) (expr_fits prepared whole number block there env fits tables belong (behind_fits prepared whole tables number block env belong there fits) x f e h).cells;
    lent = λ x f. each_of (IsLent (rows x)) (own_ins e) (expr_fits prepared whole number block there env fits tables belong (behind_fits prepared whole tables number block env belong there fits) x f e h).lent;
  }

  half_parts : OfParts Half problem
  half_parts = parts_of Half problem (each_from Half (exprs_of problem) (λ e h. half_in e (in_append_left e (exprs_of problem) (map output_expr block.columns ++ map order_expr block.order) h)))

  -- ---- conditions

  abbrev Fine : Expr → Type 0
  Fine e = Half e × IsBoolean e

  booleans : Each IsBoolean (conditions_in block)
  booleans = each_of IsBoolean (conditions_in block) typed_block.conditions

  abbrev of_joins : List Expr
  of_joins = flat_map join_exprs problem.joins

  abbrev of_items : List Expr
  of_items = flat_map item_exprs problem.items

  fine_clauses : Each Fine (map expr_of problem.clauses)
  fine_clauses = each_both Half IsBoolean Fine (λ e p q. (p, q)) (map expr_of problem.clauses) half_parts.clauses (each_left IsBoolean (map expr_of problem.clauses) (of_joins ++ of_items) booleans)

  fine_joins : Each (λ (s : Special). Each Fine (join_exprs s)) problem.joins
  fine_joins = each_both (λ (s : Special). Each Half (join_exprs s)) (λ (s : Special). Each IsBoolean (join_exprs s)) (λ (s : Special). Each Fine (join_exprs s)) (λ s p q. each_both Half IsBoolean Fine (λ e a b. (a, b)) (join_exprs s) p q) problem.joins
      half_parts.joins (flat_parts IsBoolean join_exprs problem.joins (each_left IsBoolean of_joins of_items (each_right IsBoolean (map expr_of problem.clauses) (of_joins ++ of_items) booleans)))

  fine_class : (stage : Stage) (c : Class) → Each Half (class_exprs c) → IsOneType c → Each Fine (of_class stage c)
  fine_class stage c half types = each_both Half IsBoolean Fine (λ e p q. (p, q)) (of_class stage c)
      (class_made Half Half (half_up whole.schema scope Where rows) stage c half)
      (class_made (λ e. type_of e ≡ Some types.0) IsBoolean (λ a b p q. is_of_some ty.Boolean (type_of (equals a b)) (comparable a b types.0 p q)) stage c types.1)

  fine_classes : (stage : Stage) → Each (λ (c : Class). Each Fine (of_class stage c)) problem.classes
  fine_classes stage = each_both (λ (c : Class). Each Half (class_exprs c)) IsOneType (λ (c : Class). Each Fine (of_class stage c)) (fine_class stage) problem.classes half_parts.classes (made_types problem made)

  fine_stage : (stage : Stage) → Each Fine (clauses_of_stage problem stage)
  fine_stage = stage_made Fine problem fine_joins fine_clauses fine_classes

  -- what can be evaluated anywhere inside the block
  abbrev Side : Expr → Type 0
  Side e = Half e × IsTypedExpr e

  of_fine : (e : Expr) → Fine e → Side e
  of_fine e p = (p.0, ap is_some p.1)

  evaluated : (e : Expr) → Side e → (m : Map) → CanEvaluate (run.sublinks (run.environment m)) e (run.environment m)
  evaluated e p m =
      let inside = map_is_inside prepared whole tables number block env belong there fits m in
      record {
        schema = whole.schema;
        scope = scope;
        typed = p.1;
        columns = p.0.known;
        bounded = p.0.bounded;
        fits = record {
          cells = all_of_each (IsCellAt scope (run.environment m)) (own_columns e) (p.0.cells (run.environment m) inside);
          lent = all_of_each (IsLent (rows (run.environment m))) (own_ins e) (p.0.lent (run.environment m) inside);
        };
      }

  pub scan_tested : (i : ℕ) (m : Map) → All (IsTested run m) (scan_clauses problem i)
  scan_tested i m = all_of_each (IsTested run m) (scan_clauses problem i) (each_weaker Fine (IsTested run m) (λ e p. record { evaluated = evaluated e (of_fine e p) m; boolean = p.1 }) (scan_clauses problem i) (fine_stage (scan_stage i)))

  -- ---- keys

  sides_by : (e : Expr) → Fine e → (o : Option Sides) → sides_of e ≡ o → IsPair Half o → IsPair Side o
  sides_by e p None found h = tt
  sides_by e p (Some s) found h =
      let c = compared e s found (ap (is_of ty.Boolean) p.1) in
      ((h.0, ap is_some c.first), (h.1, ap is_some c.second))

  side_down : (e : Expr) → Fine e → IsPair Side (sides_of e)
  side_down e p = sides_by e p (sides_of e) refl (half_down whole.schema scope Where rows e p.0)

  module _ (kind : Step) (left right : Tree) where
    abbrev l : ℕ
    l = set_of left

    abbrev r : ℕ
    r = set_of right

    abbrev meant : Meant
    meant = meant_of run problem l r kind

    fine_list : Each Fine (key_list problem l r kind)
    fine_list = list_made Fine problem fine_joins fine_clauses fine_classes l r kind

    fine_filters : Each Fine (filters_of problem l r kind)
    fine_filters = filters_made Fine problem fine_joins fine_clauses fine_classes l r kind

    sides_fine : IsPair Side (key_of problem l r kind)
    sides_fine = key_ok Fine Side side_down problem l r kind fine_list

    key_tested : (m : Map) (o : Option Sides) → IsPair Side o → All (CanEvaluateAt meant m) (sides (option_map pair_of_sides o))
    key_tested m None h = all_of_each (CanEvaluateAt meant m) [] tt
    key_tested m (Some s) h = all_of_each (CanEvaluateAt meant m) (s.first ∷ s.second ∷ []) (evaluated s.first h.0 m, (evaluated s.second h.1 m, tt))

    all_tested : (m : Map) (es : List Expr) → Each Fine es → All (CanEvaluateAt meant m) es
    all_tested m es h = all_of_each (CanEvaluateAt meant m) es (each_weaker Fine (CanEvaluateAt meant m) (λ e p. evaluated e (of_fine e p) m) es h)

    tested : (m : Map) → CanTest meant m
    tested m = record { key = key_tested m (key_of problem l r kind) sides_fine; on = all_tested m (key_list problem l r kind) fine_list; filters = all_tested m (filters_of problem l r kind) fine_filters }

    all_booleans : (es : List Expr) → Each Fine es → All IsBoolean es
    all_booleans es h = all_of_each IsBoolean es (each_weaker Fine IsBoolean (λ e p. p.1) es h)

    module _ (how : Method) (legal : IsLegalTree problem (Tree.Join how kind left right)) where
      apart : Apart l r
      apart = legal.0.step.apart

      abbrev lefts : List Map
      lefts = tree_list run problem left

      abbrev rights : List Map
      rights = tree_list run problem right

      abbrev n : ℕ
      n = length problem.items

      left_maps : Each (IsOver n l) lefts
      left_maps = tree_over run problem left

      right_maps : Each (IsOver n r) rights
      right_maps = tree_over run problem right

      -- what holds of each pair of maps over the two sets
      all_pairs : (P : Map → Map → Type 0) → ((a b : Map) → IsOver n l a → IsOver n r b → P a b) → All (λ a. All (P a) rights) lefts
      all_pairs P each = all_of_each (λ a. All (P a) rights) lefts (each_weaker (IsOver n l) (λ a. All (P a) rights) (λ a p. all_of_each (P a) rights (each_weaker (IsOver n r) (P a) (λ b q. each a b p q) rights right_maps)) lefts left_maps)

      each_map : (P : Map → Type 0) → ((m : Map) → P m) → (ms : List Map) → All P ms
      each_map P always ms = all_of_each P ms (each_from P ms (λ m h. always m))

      pub can_join : CanJoin meant kind lefts rights
      can_join = record {
        kind = kinds kind legal.0;
        width = n;
        left_width = all_of_each (λ a. length a ≡ n) lefts (each_weaker (IsOver n l) (λ a. length a ≡ n) (λ a p. p.wide) lefts left_maps);
        right_width = all_of_each (λ b. length b ≡ n) rights (each_weaker (IsOver n r) (λ b. length b ≡ n) (λ b p. p.wide) rights right_maps);
        apart = all_pairs AreApart (apart_maps n l r apart);
        left_test = each_map (CanTest meant) tested lefts;
        right_test = each_map (CanTest meant) tested rights;
        pair_test = all_pairs (λ a b. CanTest meant (both a b)) (λ a b p q. tested (both a b));
        on_booleans = all_booleans (key_list problem l r kind) fine_list;
        filter_booleans = all_booleans (filters_of problem l r kind) fine_filters;
      }
        where
          kinds : (k : Step) → IsLegalStep problem l r k → (kind_of_step problem k ≡ join.Inner) ↔ (k ≡ step.Inner)
          kinds step.Inner h = (λ e. refl, λ e. refl)
          kinds (step.By at) h =
              let by = h.of_kind in
              let found = found_join problem.joins at by.join (at_in problem.joins by.only_new.place by.join by.only_new.join) by.numbered in
              (λ e. absurd (made_outer problem made found.0 found.1 (sym (ap kind_of_join found.2) ∙ e)), λ e. absurd (other at e))
            where
              other : (at : ℕ) → step.By at ≡ step.Inner → ⊥
              other at e = cc

      -- ---- looking up

      module _ (s : Sides) (is : key_of problem l r kind ≡ Some s) where
        key : IsKeyOf (problem_rels problem) l r (key_list problem l r kind) s
        key = found_key (problem_rels problem) l r (key_list problem l r kind) s is

        pair : IsPair Side (Some s)
        pair = subst (IsPair Side) is sides_fine

        over : (set : ℕ) (e : Expr) → is_over (problem_rels problem) set e ≡ true → Within (used (problem_rels problem) e) set
        over set e h = (is_within_says (used (problem_rels problem) e) set).0 (and_parts (not (is_empty (used (problem_rels problem) e))) (is_within (used (problem_rels problem) e) set) h).1

        on_left : (a b : Map) → IsOver n l a → IsOver n r b → Agree (used (problem_rels problem) s.first) (both a b) a
        on_left a b p q i h = both_left a b i (q.lies i (λ k. apart (i, over l s.first key.first_over i h, k)))

        on_right : (a b : Map) → IsOver n l a → IsOver n r b → Agree (used (problem_rels problem) s.second) (both a b) b
        on_right a b p q i h = both_right a b i (p.lies i (λ k. apart (i, k, over r s.second key.second_over i h)))

        look_up_by : CanLookUpBy meant s.first s.second lefts rights
        look_up_by = record {
          first_plain = key.first_plain;
          second_plain = key.second_plain;
          equality = elim key.equality [ inl h ↦ inl (from_in (equals s.first s.second) (key_list problem l r kind) h) | inr h ↦ inr (from_in (equals s.second s.first) (key_list problem l r kind) h) ];
          first_alone = all_pairs (λ a b. value_at meant (both a b) s.first ≡ value_at meant a s.first) (λ a b p q. side_value (problem_rels problem) run.sources (around_block block env) s.first pair.0.1 key.first_plain (both a b) a (on_left a b p q) (rows (run.environment (both a b))) (rows (run.environment a)));
          second_alone = all_pairs (λ a b. value_at meant (both a b) s.second ≡ value_at meant b s.second) (λ a b p q. side_value (problem_rels problem) run.sources (around_block block env) s.second pair.1.1 key.second_plain (both a b) b (on_right a b p q) (rows (run.environment (both a b))) (rows (run.environment b)));
        }

      look_up_at : (o : Option Sides) → key_of problem l r kind ≡ o → IsSome o → CanLookUp meant lefts rights
      look_up_at None is some = cc
      look_up_at (Some s) is some = record { first = s.first; second = s.second; key = ap (option_map pair_of_sides) is; by = look_up_by s is }

      pub can_look_up : IsSome (key_of problem l r kind) → CanLookUp meant lefts rights
      can_look_up some = look_up_at (key_of problem l r kind) refl some

pub all_wide : (run : Run) (problem : Problem) (tree : Tree) → All (HasPlaces (length problem.items)) (tree_list run problem tree)
all_wide run problem tree = all_of_each (HasPlaces (length problem.items)) (tree_list run problem tree) (each_weaker (IsOver (length problem.items) (set_of tree)) (HasPlaces (length problem.items)) (λ m p. p.wide) (tree_list run problem tree) (tree_over run problem tree))
