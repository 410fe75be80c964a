-- What holds of the scans and steps of a block in its scene.
use Rattle.std.proofs.Common.{◌≡◌, ◌∙◌, ap, sym, subst, subst₂, refl, ℕ, ◌<◌, Bool, true, List, [], ◌∷◌, filter, length, Option, Some, None, arith}
use Rattle.std.specs.Prelude.{◌==◌, All, Contains, IsSome, if◌then◌else◌}
use Rattle.std.specs.List.{flat_map}
use Rattle.std.proofs.lemmas.Bool.{eqb-true}
use mathlib.Core.Path.{fun_ext}
use Rattle.jp_facts.proofs.Members.{to_in}
use Rattle.jp_query.specs.declared.Expr.{Expr}
use Rattle.jp_query.specs.declared.JoinKind.TheVariants as join
use Rattle.jp_query.specs.Outermost.{Outer, outermost}
use Rattle.jp_query.specs.Typing.{IsBoolean}
use Rattle.jp_problem.specs.declared.types.Method.{Method}
use Rattle.jp_problem.specs.declared.types.Method.TheVariants as method
use Rattle.jp_problem.specs.declared.types.Problem.{Problem}
use Rattle.jp_problem.specs.declared.types.Special.{Special}
use Rattle.jp_problem.specs.declared.types.Step.{Step}
use Rattle.jp_problem.specs.declared.types.Step.TheVariants as step
use Rattle.jp_problem.specs.Keys.{IsAllowed, is_by_left, is_some_left, key_of}
use Rattle.jp_problem.specs.Problems.{join_of}
use Rattle.jp_problem.specs.StepClauses.{scan_clauses}
use Rattle.jp_problem.specs.Trees.{Tree, IsLegalTree, set_of}
use Rattle.jp_problem.proofs.LegalLaws.{is_left_says}
use Rattle.jp_frame.specs.Maps.{Map, both}
use Rattle.jp_frame.specs.Methods.{rows_of_item}
use Rattle.jp_framed.specs.Environments.{env_from, source_at}
use Rattle.jp_induction.proofs.EachPart.{each_of}
use Rattle.jp_joins.specs.Conditions.{AreApart, CanEvaluateAt, CanJoin, CanLookUp, CanTest}
use Rattle.jp_joins.specs.Meant.{Meant, is_match, left_gives, list_holds, plain_list}
use Rattle.jp_lists.specs.Asked.{AreMeantAlike, HasOwnSublinks, HasRowsAlike, exprs_of_step}
use Rattle.jp_lists.specs.Lists.{run_in, sublink_rows}
use Rattle.jp_lists.specs.Seen.{HasSameRows, IsTested}
use Rattle.jp_lists.specs.Steps.{Run, kind_of_join, kind_of_step, meant_of, method_list, run_holds, scan_list, tree_list}
use Rattle.jp_lists.proofs.Arounds.{from_each}
use Rattle.jp_lists.proofs.AskedLaws.{asked_conditions, asked_evaluated, scan_own, step_own, step_joins, step_lists, step_looks_up}
use Rattle.jp_lists.proofs.CellFacts.{each_at}
use Rattle.jp_lists.proofs.StepLaws.{can_join, can_look_up, scan_tested}
use Rattle.jp_tree.specs.BlockParts.{sublinks_of}
use Rattle.jp_tree.specs.PlanTrees.{tree_at}
use Rattle.jp_tree.specs.Pools.{IsPool}
use Rattle.jp_tree.specs.Prepared.{HasPlan}
use Rattle.jp_tree.proofs.PlanTreeLaws.{tree_named}
use Rattle.jp_tree.proofs.PoolLaws.{named_below}
use Rattle.jp_tree.specs.declared.prepared.Block.{Block}
use Rattle.jp_tree.specs.declared.prepared.Prepared.{Prepared}
use Rattle.jp_items.specs.Scenes.{IsListed, IsScene, listing_in, rows_known, rows_listed, run_of, tables_in}
use Rattle.jp_items.specs.Sights.{sight_env, sources_in}
use Rattle.jp_items.specs.declared.scene.Scene.{Scene}
use Rattle.jp_joins.specs.Tuples.{maps_of}
use Rattle.jp_plans.specs.Known.{CanRun, known_scan, known_step}
use Rattle.jp_plans.specs.Lookups.{AreEnough, item_maps}
use Rattle.jp_plans.specs.Operators.{IsPart}
use Rattle.jp_plans.specs.declared.steps.Part.{Part}

all_weaker : {X : Type 0} (P Q : X → Type 0) → ((x : X) → P x → Q x) → (xs : List X) → All P xs → All Q xs
all_weaker P Q w xs h = λ k d low. w _ (h k d low)

all_anyway : {X : Type 0} (P : X → Type 0) → ((x : X) → P x) → (xs : List X) → All P xs
all_anyway P always xs = λ k d low. always _

all_none : {X : Type 0} (P : X → Type 0) → All P []
all_none P = λ k d low. absurd (omega (arith, low))

-- ---- the kinds of joins

inner_not_left : join.Left ≡ join.Inner → ⊥
inner_not_left e = cc

by_not_inner : (number : ℕ) → step.By number ≡ step.Inner → ⊥
by_not_inner number e = cc

left_of_join : (o : Option Special) → is_some_left o ≡ true → kind_of_join o ≡ join.Left
left_of_join None e = absurd (cc)
left_of_join (Some s) e = (is_left_says s.kind).0 e

left_kind : (problem : Problem) (kind : Step) → is_by_left problem kind ≡ true → kind_of_step problem kind ≡ join.Left
left_kind problem step.Inner e = absurd (cc)
left_kind problem (step.By number) e = left_of_join (join_of problem.joins number) e

-- ---- a left join to nothing

gives_itself : (test : Map → Bool) (left : List Map) → flat_map (left_gives join.Left test []) left ≡ left
gives_itself test [] = refl
gives_itself test (m ∷ left) = ap (λ ms. m ∷ ms) (gives_itself test left)

pub empty_list : {X : Type 0} (xs : List X) → true ≡ (length xs == 0) → xs ≡ []
empty_list [] e = refl
empty_list (x ∷ xs) e = let none : length (x ∷ xs) ≡ 0 = eqb-true (length (x ∷ xs)) 0 (sym e) in absurd (omega (arith, none))

-- without conditions each map is kept
none_tested : (meant : Meant) (maps : List Map) → filter (list_holds meant []) maps ≡ maps
unfolding list_holds
none_tested meant [] = refl
none_tested meant (m ∷ maps) = ap (λ ms. m ∷ ms) (none_tested meant maps)

pub item_listed : (scene : Scene) (problem : Problem) (item : ℕ) (maps : List Map) (items count : ℕ) → maps ≡ rows_of_item items item 0 count → items ≡ length problem.items → count ≡ length (source_at (sources_in scene.sight) item)
    → maps ≡ item_maps scene problem item
item_listed scene problem item maps items count are few many = are ∙ (λ i. rows_of_item (few i) item 0 (many i))

-- a scan of the scene, and the clauses that are tested at it
pub scan_meant : (scene other : Scene) (problem : Problem) (item : ℕ) (clauses : List Expr) → other ≡ scene → clauses ≡ scan_clauses problem item
    → record { kind = join.Left; environment = sight_env other.sight; sublink_rows = rows_known other; key = None; on = []; filters = clauses } ≡ known_scan scene problem item
scan_meant scene other problem item clauses same are = λ i. record { kind = join.Left; environment = sight_env (same i).sight; sublink_rows = rows_known (same i); key = None; on = []; filters = are i }

pub scan_listed : (scene : Scene) (problem : Problem) (item : ℕ) (list : List Map) → list ≡ scan_list (run_of scene) problem item → list ≡ tree_list (run_of scene) problem (Tree.Scan item)
unfolding tree_list
scan_listed scene problem item list are = are

module _ (scene : Scene) (block : Block) (is : IsScene scene block) where
  abbrev prepared : Prepared
  prepared = scene.prepared.now

  abbrev problem : Problem
  problem = block.problem

  abbrev run : Run
  run = run_of scene

  run_is : run ≡ run_in prepared (tables_in scene) block is.outer
  unfolding sight_env
  run_is = λ i. record { sources = is.sources i; environment = env_from 0 (is.layout i) (is.sources i) (is.around i); sublinks = sublink_rows prepared.blocks (listing_in scene) }

  -- ---- the rows of sublinks

  known : (m : Map) (o : Outer) → Contains (sublinks_of block) o → HasSameRows (rows_known scene m) (rows_listed scene m) o
  known m o there = ap (λ (b : Bool). if b then rows_listed scene m o.number else []) (from_each (IsListed scene.sublinks.now) o (sublinks_of block) (each_of (IsListed scene.sublinks.now) (sublinks_of block) is.sublinks) (to_in o (sublinks_of block) there))

  alike_at : (m : Map) (e : Expr) → HasOwnSublinks block e → HasRowsAlike (rows_known scene m) (rows_listed scene m) e
  alike_at m e own = all_weaker (Contains (sublinks_of block)) (HasSameRows (rows_known scene m) (rows_listed scene m)) (known m) (outermost e) own

  alike_all : (m : Map) (es : List Expr) → All (HasOwnSublinks block) es → All (HasRowsAlike (rows_known scene m) (rows_listed scene m)) es
  alike_all m es own = all_weaker (HasOwnSublinks block) (HasRowsAlike (rows_known scene m) (rows_listed scene m)) (alike_at m) es own

  -- ---- scans

  module _ (item : ℕ) where
    abbrev rows : List Map
    rows = item_maps scene problem item

    abbrev clauses : List Expr
    clauses = scan_clauses problem item

    tested : (m : Map) → All (IsTested run m) clauses
    tested m = subst (λ r. All (IsTested r m) clauses) (sym run_is) (scan_tested prepared is.whole scene.sight.tables.now.list is.number block is.outer is.belong is.there is.fits item m)

    evaluated : (m : Map) → All (CanEvaluateAt (known_scan scene problem item) m) clauses
    evaluated m = λ k d low. asked_evaluated (rows_known scene m) (rows_listed scene m) _ (sight_env scene.sight m) (alike_all m clauses (scan_own block item) k d low) (tested m k d low).evaluated

    can_test : (m : Map) → CanTest (known_scan scene problem item) m
    can_test m = record { key = all_none (CanEvaluateAt (known_scan scene problem item) m); on = all_none (CanEvaluateAt (known_scan scene problem item) m); filters = evaluated m }

    pub can_scan : (maps : List Map) → AreEnough scene problem item maps → (number : ℕ) → CanJoin (known_scan scene problem item) (step.By number) maps []
    can_scan maps enough number = record {
      kind = (λ e. absurd (inner_not_left e), λ e. absurd (by_not_inner number e));
      width = length problem.items;
      left_width = enough.wide;
      right_width = all_none (λ (b : Map). length b ≡ length problem.items);
      apart = all_anyway (λ a. All (AreApart a) []) (λ a. all_none (AreApart a)) maps;
      left_test = all_anyway (CanTest (known_scan scene problem item)) can_test maps;
      right_test = all_none (CanTest (known_scan scene problem item));
      pair_test = all_anyway (λ a. All (λ b. CanTest (known_scan scene problem item) (both a b)) []) (λ a. all_none (λ b. CanTest (known_scan scene problem item) (both a b))) maps;
      on_booleans = all_none IsBoolean;
      filter_booleans = all_weaker (IsTested run []) IsBoolean (λ e t. t.boolean) clauses (tested []);
    }

    tests_same : list_holds (known_scan scene problem item) clauses ≡ run_holds run clauses
    unfolding list_holds
    tests_same = fun_ext (λ m. asked_conditions (rows_known scene m) (rows_listed scene m) clauses (sight_env scene.sight m) (alike_all m clauses (scan_own block item)))

    -- what makes the clauses true of maps that are enough
    kept_is : (maps : List Map) → AreEnough scene problem item maps → filter (list_holds (known_scan scene problem item) clauses) maps ≡ scan_list run problem item
    kept_is maps enough = enough.kept ∙ ap (λ test. filter test rows) tests_same

    pub scan_is : (maps : List Map) → AreEnough scene problem item maps → plain_list (known_scan scene problem item) maps [] ≡ scan_list run problem item
    scan_is maps enough = ap (filter (list_holds (known_scan scene problem item) clauses)) (gives_itself (is_match (known_scan scene problem item)) maps) ∙ kept_is maps enough

    pub untested_scan : (maps : List Map) → AreEnough scene problem item maps → clauses ≡ [] → maps ≡ scan_list run problem item
    untested_scan maps enough none = sym (ap (λ conds. filter (list_holds (known_scan scene problem item) conds) maps) none ∙ none_tested (known_scan scene problem item) maps) ∙ kept_is maps enough

  -- ---- steps

  meant_alike : (l r : ℕ) (kind : Step) → AreMeantAlike (known_step scene problem l r kind) (meant_of run problem l r kind)
  meant_alike l r kind = record {
    kind = refl;
    environment = refl;
    key = refl;
    on = refl;
    filters = refl;
    rows = λ m. alike_all m (exprs_of_step (meant_of run problem l r kind)) (step_own block l r kind);
  }

  module _ (how : Method) (kind : Step) (left right : Tree) where
    abbrev one : Meant
    one = known_step scene problem (set_of left) (set_of right) kind

    abbrev two : Run → Meant
    two r = meant_of r problem (set_of left) (set_of right) kind

    abbrev listed : Tree → List Map
    listed t = tree_list run problem t

    joins : IsLegalTree problem (Tree.Join how kind left right) → CanJoin one kind (listed left) (listed right)
    joins legal = step_joins one (two run) (meant_alike (set_of left) (set_of right) kind) kind (listed left) (listed right)
        (subst (λ r. CanJoin (two r) kind (tree_list r problem left) (tree_list r problem right)) (sym run_is) (can_join prepared is.whole scene.sight.tables.now.list is.number block is.outer is.belong is.there is.fits kind left right how legal))

    looks_up : IsLegalTree problem (Tree.Join how kind left right) → IsSome (key_of problem (set_of left) (set_of right) kind) → CanLookUp one (listed left) (listed right)
    looks_up legal some = step_looks_up one (two run) (meant_alike (set_of left) (set_of right) kind) (listed left) (listed right)
        (subst (λ r. CanLookUp (two r) (tree_list r problem left) (tree_list r problem right)) (sym run_is) (can_look_up prepared is.whole scene.sight.tables.now.list is.number block is.outer is.belong is.there is.fits kind left right how legal some))

    runs_by : IsLegalTree problem (Tree.Join how kind left right) → (m : Method) → IsAllowed problem (set_of left) (set_of right) kind m → CanRun m one (listed left) (listed right)
    runs_by legal method.Nest allowed = tt
    runs_by legal method.Hash allowed = looks_up legal allowed
    runs_by legal method.HashRight allowed = (looks_up legal allowed.0, left_kind problem kind allowed.1)
    runs_by legal method.Merge allowed = looks_up legal allowed

    runs : IsLegalTree problem (Tree.Join how kind left right) → CanRun how one (listed left) (listed right)
    runs legal = runs_by legal how legal.1

    step_is : method_list how one (listed left) (listed right) ≡ listed (Tree.Join how kind left right)
    unfolding tree_list
    step_is = step_lists one (two run) (meant_alike (set_of left) (set_of right) kind) how (listed left) (listed right)

  -- ---- steps of parts

  module _ (how : Method) (kind : Step) (l r : Tree) (left right : Part) (on_left : IsPart run problem l left) (on_right : IsPart run problem r right) where
    abbrev step_meant : Meant
    step_meant = known_step scene problem left.set right.set kind

    at_parts : (P : ℕ → ℕ → List Map → List Map → Type 0) → P (set_of l) (set_of r) (tree_list run problem l) (tree_list run problem r) → P left.set right.set (maps_of left.tuples.items) (maps_of right.tuples.items)
    at_parts P h = subst₂ (λ a b. P a b (maps_of left.tuples.items) (maps_of right.tuples.items)) (sym on_left.set) (sym on_right.set) (subst₂ (λ xs ys. P (set_of l) (set_of r) xs ys) (sym on_left.list) (sym on_right.list) h)

    pub parts_join : IsLegalTree problem (Tree.Join how kind l r) → CanJoin step_meant kind (maps_of left.tuples.items) (maps_of right.tuples.items)
    parts_join legal = at_parts (λ a b xs ys. CanJoin (known_step scene problem a b kind) kind xs ys) (joins how kind l r legal)

    pub parts_run : IsLegalTree problem (Tree.Join how kind l r) → CanRun how step_meant (maps_of left.tuples.items) (maps_of right.tuples.items)
    parts_run legal = at_parts (λ a b xs ys. CanRun how (known_step scene problem a b kind) xs ys) (runs how kind l r legal)

    pub parts_listed : (list : List Map) → list ≡ method_list how step_meant (maps_of left.tuples.items) (maps_of right.tuples.items) → list ≡ tree_list run problem (Tree.Join how kind l r)
    parts_listed list are = are ∙ at_parts (λ a b xs ys. method_list how (known_step scene problem a b kind) xs ys ≡ tree_list run problem (Tree.Join how kind l r)) (step_is how kind l r)

  -- ---- the plan

  plan : HasPlan prepared block
  plan = each_at (HasPlan prepared) prepared.blocks is.number block is.there (each_of (HasPlan prepared) prepared.blocks is.whole.plans)

  pub plan_there : block.plan < length prepared.pool.nodes
  plan_there = named_below prepared.pool.nodes block.plan plan.0 plan.1

  pub plan_legal : IsPool prepared.pool.nodes → IsLegalTree problem (tree_at prepared.pool.nodes block.plan)
  plan_legal pool = subst (IsLegalTree problem) (sym (tree_named prepared.pool.nodes pool block.plan plan.0 plan.1)) plan.2.legal
