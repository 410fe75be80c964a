-- A step asks for the rows of its own sublinks alone, and these stand in its block.
use Rattle.std.proofs.Common.{◌≡◌, ◌∙◌, sym, subst, refl, ℕ, List, [], ◌∷◌, ◌++◌, map, Option, Some, None}
use Rattle.std.specs.Prelude.{All, Contains}
use Rattle.std.specs.Option.{option_map}
use mathlib.Core.Path.{fun_ext}
use Rattle.jp_facts.proofs.Members.{In, from_in, in_append_left, in_flat_map}
use Rattle.jp_query.specs.declared.CmpOp.TheVariants as cmp
use Rattle.jp_query.specs.declared.Expr.{Expr, out-Expr}
use Rattle.jp_query.specs.declared.Expr.TheOpen.{Expr-F}
use Rattle.jp_query.specs.declared.Expr.TheVariants as expr
use Rattle.jp_query.specs.declared.Expr.TheViews.{roll-Expr, roll-out-Expr}
use Rattle.jp_query.specs.declared.Expr.TheFolds.{para-roll-Expr}
use Rattle.jp_query.specs.Fitting.{IsLent, IsRowOfTypes, InQuery, own_ins}
use Rattle.jp_query.specs.Layers.{ExprLayer}
use Rattle.jp_query.specs.Meaning.{Row, Env, holds, value_given}
use Rattle.jp_query.specs.Outermost.{Outers, expr_outers, outermost}
use Rattle.jp_eval.specs.Evaluation.{CanEvaluate}
use Rattle.jp_problem.specs.declared.types.Class.{Class}
use Rattle.jp_problem.specs.declared.types.Method.{Method}
use Rattle.jp_problem.specs.declared.types.Stage.{Stage}
use Rattle.jp_problem.specs.declared.types.Step.{Step}
use Rattle.jp_problem.specs.Blocks.{output_expr, order_expr}
use Rattle.jp_problem.specs.Equalities.{Sides, sides_at, sides_of, equals}
use Rattle.jp_problem.specs.Keys.{key_list, key_of}
use Rattle.jp_problem.specs.Made.{exprs_of, class_exprs}
use Rattle.jp_problem.specs.StepClauses.{of_class, scan_stage, scan_clauses}
use Rattle.jp_frame.specs.Maps.{Map, both}
use Rattle.jp_induction.proofs.Between.{holds_same}
use Rattle.jp_induction.proofs.EachPart.{Each, each_of, all_of_each, each_left, each_right, each_append, each_weaker, each_both, each_anyway}
use Rattle.jp_joins.specs.Conditions.{CanEvaluateAt, sides, CanTest, CanJoin, CanLookUpBy, CanLookUp}
use Rattle.jp_joins.specs.Meant.{Meant, value_at, list_holds}
use Rattle.jp_joins.specs.Sorting.{key_before}
use Rattle.jp_laws.specs.SameCells.{IsSameCell, IsSamePresence}
use Rattle.jp_lists.specs.Asked.{HasRowsAlike, HasOwnSublinks, exprs_of_step, AreMeantAlike}
use Rattle.jp_lists.specs.Seen.{HasSameRows}
use Rattle.jp_lists.specs.Steps.{filters_of, pair_of_sides, method_list}
use Rattle.jp_lists.proofs.Arounds.{each_from, from_each}
use Rattle.jp_lists.proofs.GivenCells.{outers_have, value_by_sight}
use Rattle.jp_lists.proofs.InParts.{as_in, ins_are_outermost, own_ins_have}
use Rattle.jp_lists.proofs.MeantLists.{OrderAlike, method_same}
use Rattle.jp_lists.proofs.StageLaws.{IsPair, OfParts, class_made, parts_of, stage_made, list_made, filters_made, key_ok}
use Rattle.jp_tree.specs.BlockParts.{own_columns, own_placeholders, exprs_in, outermost_ins, sublinks_of}
use Rattle.jp_tree.specs.declared.prepared.Block.{Block}

-- ---- an expression with the same rows for its sublinks

module _ (rows others : ℕ → List Row) where
  given_same : (e : Expr) (env : Env) → Each (HasSameRows rows others) (outermost e) → value_given rows e env ≡ value_given others e env
  given_same e env h = value_by_sight rows others env env e (record {
    cells = each_anyway (IsSameCell env env) (λ c. refl) (own_columns e);
    presence = each_anyway (IsSamePresence env env) (λ rels i low k. refl) (own_placeholders e);
    lists = h;
  })

  abbrev Same : InQuery → Type 0
  Same q = rows q.number ≡ others q.number

  given_evaluated : (e : Expr) (env : Env) → Each (HasSameRows rows others) (outermost e) → CanEvaluate others e env → CanEvaluate rows e env
  given_evaluated e env h can = record {
    schema = can.schema;
    scope = can.scope;
    typed = can.typed;
    columns = can.columns;
    bounded = can.bounded;
    fits = record {
      cells = can.fits.cells;
      lent = all_of_each (IsLent rows) (own_ins e) (each_both (IsLent others) Same (IsLent rows) (λ q lent same. subst (All (IsRowOfTypes q.outputs)) (sym same) lent) (own_ins e)
          (each_of (IsLent others) (own_ins e) can.fits.lent)
          (own_ins_have Same e (each_from (λ o. Same (as_in o)) (outermost_ins e) (λ o r. from_each (HasSameRows rows others) o (outermost e) h (from_each (λ o. In o (outermost e)) o (outermost_ins e) (ins_are_outermost e) r)))));
    };
  }

  pub asked_conditions : (conds : List Expr) (env : Env) → All (HasRowsAlike rows others) conds → holds (map (value_given rows) conds) env ≡ holds (map (value_given others) conds) env
  asked_conditions conds env h = holds_same (value_given rows) (value_given others) env env conds (each_weaker (HasRowsAlike rows others) (λ e. value_given rows e env ≡ value_given others e env) (λ e k. given_same e env (each_of (HasSameRows rows others) (outermost e) k)) conds (each_of (HasRowsAlike rows others) conds h))

  pub asked_evaluated : (e : Expr) (env : Env) → HasRowsAlike rows others e → CanEvaluate others e env → CanEvaluate rows e env
  asked_evaluated e env h can = given_evaluated e env (each_of (HasSameRows rows others) (outermost e) h) can

-- ---- two meanings of a step

swapped : {X M : Type 0} (Q : M → X → Type 0) (xs : List X) → ((m : M) → Each (Q m) xs) → Each (λ x. (m : M) → Q m x) xs
swapped Q [] h = tt
swapped Q (x ∷ xs) h = (λ m. (h m).0, swapped Q xs (λ m. (h m).1))

module _ (meant : Meant) (rows : Map → ℕ → List Row) where
  -- the step with other rows for sublinks
  abbrev other : Meant
  other = record { kind = meant.kind; environment = meant.environment; sublink_rows = rows; key = meant.key; on = meant.on; filters = meant.filters }

  abbrev Asks : Expr → Type 0
  Asks e = (m : Map) → Each (HasSameRows (rows m) (meant.sublink_rows m)) (outermost e)

  value_same : (e : Expr) → Asks e → (m : Map) → value_at other m e ≡ value_at meant m e
  value_same e h m = given_same (rows m) (meant.sublink_rows m) e (meant.environment m) (h m)

  tests_same : (conds : List Expr) → Each Asks conds → list_holds other conds ≡ list_holds meant conds
  unfolding list_holds
  tests_same conds h = fun_ext (λ m. holds_same (value_given (rows m)) (value_given (meant.sublink_rows m)) (meant.environment m) (meant.environment m) conds (each_weaker Asks (λ e. value_at other m e ≡ value_at meant m e) (λ e a. value_same e a m) conds h))

  orders_alike : (key : Option (Expr × Expr)) → Each Asks (sides key) → OrderAlike other meant key
  orders_alike None h = tt
  orders_alike (Some key) h = (λ i a b. key_before (value_same key.0 h.0 a i) (value_same key.0 h.0 b i), λ i a b. key_before (value_same key.1 h.1.0 a i) (value_same key.1 h.1.0 b i))

  evaluated : (e : Expr) → Asks e → (m : Map) → CanEvaluateAt meant m e → CanEvaluateAt other m e
  evaluated e h m can = given_evaluated (rows m) (meant.sublink_rows m) e (meant.environment m) (h m) can

  module _ (asks : Each Asks (exprs_of_step meant)) where
    of_key : Each Asks (sides meant.key)
    of_key = each_left Asks (sides meant.key) (meant.on ++ meant.filters) asks

    behind_key : Each Asks (meant.on ++ meant.filters)
    behind_key = each_right Asks (sides meant.key) (meant.on ++ meant.filters) asks

    of_on : Each Asks meant.on
    of_on = each_left Asks meant.on meant.filters behind_key

    of_filters : Each Asks meant.filters
    of_filters = each_right Asks meant.on meant.filters behind_key

    lists_same : (how : Method) (left right : List Map) → method_list how other left right ≡ method_list how meant left right
    lists_same how left right = method_same other meant refl (tests_same meant.on of_on) (tests_same meant.filters of_filters) refl (orders_alike meant.key of_key) how left left right right refl refl

    all_evaluated : (m : Map) (es : List Expr) → Each Asks es → All (CanEvaluateAt meant m) es → All (CanEvaluateAt other m) es
    all_evaluated m es h can = all_of_each (CanEvaluateAt other m) es (each_both Asks (CanEvaluateAt meant m) (CanEvaluateAt other m) (λ e a c. evaluated e a m c) es h (each_of (CanEvaluateAt meant m) es can))

    tested : (m : Map) → CanTest meant m → CanTest other m
    tested m can = record { key = all_evaluated m (sides meant.key) of_key can.key; on = all_evaluated m meant.on of_on can.on; filters = all_evaluated m meant.filters of_filters can.filters }

    all_weaker : {X : Type 0} (P Q : X → Type 0) → ((x : X) → P x → Q x) → (xs : List X) → All P xs → All Q xs
    all_weaker P Q w xs h = λ k d low. w _ (h k d low)

    joined : (kind : Step) (left right : List Map) → CanJoin meant kind left right → CanJoin other kind left right
    joined kind left right can = record {
      kind = can.kind;
      width = can.width;
      left_width = can.left_width;
      right_width = can.right_width;
      apart = can.apart;
      left_test = all_weaker (CanTest meant) (CanTest other) tested left can.left_test;
      right_test = all_weaker (CanTest meant) (CanTest other) tested right can.right_test;
      pair_test = all_weaker (λ a. All (λ b. CanTest meant (both a b)) right) (λ a. All (λ b. CanTest other (both a b)) right) (λ a h. all_weaker (λ b. CanTest meant (both a b)) (λ b. CanTest other (both a b)) (λ b. tested (both a b)) right h) left can.pair_test;
      on_booleans = can.on_booleans;
      filter_booleans = can.filter_booleans;
    }

    looked : (left right : List Map) → CanLookUp meant left right → CanLookUp other left right
    looked left right can = record { first = can.first; second = can.second; key = can.key; by = by_same }
      where
        of_sides : Each Asks (can.first ∷ can.second ∷ [])
        of_sides = subst (λ key. Each Asks (sides key)) can.key of_key

        moved : (e : Expr) → Asks e → (m n : Map) → value_at meant m e ≡ value_at meant n e → value_at other m e ≡ value_at other n e
        moved e a m n same = value_same e a m ∙ same ∙ sym (value_same e a n)

        by_same : CanLookUpBy other can.first can.second left right
        by_same = record {
          first_plain = can.by.first_plain;
          second_plain = can.by.second_plain;
          equality = can.by.equality;
          first_alone = all_weaker (λ a. All (λ b. value_at meant (both a b) can.first ≡ value_at meant a can.first) right) (λ a. All (λ b. value_at other (both a b) can.first ≡ value_at other a can.first) right)
              (λ a h. all_weaker (λ b. value_at meant (both a b) can.first ≡ value_at meant a can.first) (λ b. value_at other (both a b) can.first ≡ value_at other a can.first) (λ b s. moved can.first of_sides.0 (both a b) a s) right h) left can.by.first_alone;
          second_alone = all_weaker (λ a. All (λ b. value_at meant (both a b) can.second ≡ value_at meant b can.second) right) (λ a. All (λ b. value_at other (both a b) can.second ≡ value_at other b can.second) right)
              (λ a h. all_weaker (λ b. value_at meant (both a b) can.second ≡ value_at meant b can.second) (λ b. value_at other (both a b) can.second ≡ value_at other b can.second) (λ b s. moved can.second of_sides.1.0 (both a b) b s) right h) left can.by.second_alone;
        }

module _ (one two : Meant) (alike : AreMeantAlike one two) where
  is_other : other two one.sublink_rows ≡ one
  is_other = λ i. record { kind = sym alike.kind i; environment = sym alike.environment i; sublink_rows = one.sublink_rows; key = sym alike.key i; on = sym alike.on i; filters = sym alike.filters i }

  asked : Each (Asks two one.sublink_rows) (exprs_of_step two)
  asked = swapped (λ m e. Each (HasSameRows (one.sublink_rows m) (two.sublink_rows m)) (outermost e)) (exprs_of_step two)
      (λ m. each_weaker (HasRowsAlike (one.sublink_rows m) (two.sublink_rows m)) (λ e. Each (HasSameRows (one.sublink_rows m) (two.sublink_rows m)) (outermost e)) (λ e h. each_of (HasSameRows (one.sublink_rows m) (two.sublink_rows m)) (outermost e) h) (exprs_of_step two) (each_of (HasRowsAlike (one.sublink_rows m) (two.sublink_rows m)) (exprs_of_step two) (alike.rows m)))

  pub step_lists : (how : Method) (left right : List Map) → method_list how one left right ≡ method_list how two left right
  step_lists how left right = subst (λ x. method_list how x left right ≡ method_list how two left right) is_other (lists_same two one.sublink_rows asked how left right)

  pub step_joins : (kind : Step) (left right : List Map) → CanJoin two kind left right → CanJoin one kind left right
  step_joins kind left right can = subst (λ x. CanJoin x kind left right) is_other (joined two one.sublink_rows asked kind left right can)

  pub step_looks_up : (left right : List Map) → CanLookUp two left right → CanLookUp one left right
  step_looks_up left right can = subst (λ x. CanLookUp x left right) is_other (looked two one.sublink_rows asked left right can)

-- ---- the sublinks of what a plan tests

module _ (block : Block) where
  abbrev Own : Expr → Type 0
  Own e = Each (Contains (sublinks_of block)) (outermost e)

  up : (a b : Expr) → Own a → Own b → Own (equals a b)
  up a b p q = subst Own (expr.rolls-Compare cmp.Eq a b) (subst (Each (Contains (sublinks_of block))) (sym (para-roll-Expr Outers Outers Outers Outers Outers expr_outers (λ t. []) (λ o. []) (λ u. []) (λ q. []) (Expr-F.Compare cmp.Eq a b)))
      (each_append (Contains (sublinks_of block)) (outermost a) (outermost b ++ []) p (each_append (Contains (sublinks_of block)) (outermost b) [] q tt)))

  down_at : (x : ExprLayer) → Own (roll-Expr x) → IsPair Own (sides_at x)
  down_at (Expr-F.Compare cmp.Eq a b) h = let each = (outers_have (Contains (sublinks_of block)) (Expr-F.Compare cmp.Eq a b) h).1 in (each.0, each.1.0)
  down_at x h = tt

  down : (e : Expr) → Own e → IsPair Own (sides_of e)
  down e h = down_at (out-Expr e) (subst Own (sym (roll-out-Expr e)) h)

  parts : OfParts Own block.problem
  parts = parts_of Own block.problem (each_from Own (exprs_of block.problem) (λ e h. each_from (Contains (sublinks_of block)) (outermost e)
      (λ s k. from_in s (sublinks_of block) (in_flat_map outermost e s (exprs_in block) (in_append_left e (exprs_of block.problem) (map output_expr block.columns ++ map order_expr block.order) h) k))))

  classes : (stage : Stage) → Each (λ (c : Class). Each Own (of_class stage c)) block.problem.classes
  classes stage = each_weaker (λ (c : Class). Each Own (class_exprs c)) (λ (c : Class). Each Own (of_class stage c)) (class_made Own Own up stage) block.problem.classes parts.classes

  all_own : (es : List Expr) → Each Own es → All (HasOwnSublinks block) es
  all_own es h = all_of_each (HasOwnSublinks block) es (each_weaker Own (HasOwnSublinks block) (λ e k. all_of_each (Contains (sublinks_of block)) (outermost e) k) es h)

  pub scan_own : (i : ℕ) → All (HasOwnSublinks block) (scan_clauses block.problem i)
  scan_own i = all_own (scan_clauses block.problem i) (stage_made Own block.problem parts.joins parts.clauses classes (scan_stage i))

  module _ (left right : ℕ) (kind : Step) where
    list : Each Own (key_list block.problem left right kind)
    list = list_made Own block.problem parts.joins parts.clauses classes left right kind

    sides_own : (key : Option Sides) → IsPair Own key → Each Own (sides (option_map pair_of_sides key))
    sides_own None h = tt
    sides_own (Some s) h = (h.0, (h.1, tt))

    pub step_own : All (HasOwnSublinks block) (sides (option_map pair_of_sides (key_of block.problem left right kind)) ++ (key_list block.problem left right kind ++ filters_of block.problem left right kind))
    step_own = all_own (sides (option_map pair_of_sides (key_of block.problem left right kind)) ++ (key_list block.problem left right kind ++ filters_of block.problem left right kind))
        (each_append Own (sides (option_map pair_of_sides (key_of block.problem left right kind))) (key_list block.problem left right kind ++ filters_of block.problem left right kind) (sides_own (key_of block.problem left right kind) (key_ok Own Own down block.problem left right kind list))
        (each_append Own (key_list block.problem left right kind) (filters_of block.problem left right kind) list (filters_made Own block.problem parts.joins parts.clauses classes left right kind)))
