-- Two runs of a block whose items have the same rows, and in which its expressions have the same values at each map, list the
-- same maps.
use Rattle.std.proofs.Common.{◌≡◌, ◌∙◌, sym, refl, ℕ, List, filter, length, Option, Some, None}
use Rattle.std.specs.Option.{option_map}
use mathlib.Core.Path.{fun_ext}
use Rattle.jp_base.specs.declared.values.Value.{Value}
use Rattle.jp_query.specs.declared.Expr.{Expr}
use Rattle.jp_query.specs.Meaning.{value_given}
use Rattle.jp_problem.specs.declared.types.Class.{Class}
use Rattle.jp_problem.specs.declared.types.Method.{Method}
use Rattle.jp_problem.specs.declared.types.Problem.{Problem}
use Rattle.jp_problem.specs.declared.types.Stage.{Stage}
use Rattle.jp_problem.specs.declared.types.Step.{Step}
use Rattle.jp_problem.specs.Equalities.{Sides, sides_of, equals}
use Rattle.jp_problem.specs.Keys.{key_of}
use Rattle.jp_problem.specs.Made.{exprs_of, class_exprs}
use Rattle.jp_problem.specs.StepClauses.{of_class, scan_stage, scan_clauses}
use Rattle.jp_problem.specs.Trees.{Tree, set_of}
use Rattle.jp_frame.specs.Maps.{Map}
use Rattle.jp_frame.specs.Methods.{rows_of_item}
use Rattle.jp_framed.specs.Environments.{source_at}
use Rattle.jp_induction.proofs.Between.{holds_same}
use Rattle.jp_induction.proofs.EachPart.{Each, each_weaker}
use Rattle.jp_joins.specs.Meant.{Meant, list_holds, is_match}
use Rattle.jp_joins.specs.Sorting.{key_before, stands_before}
use Rattle.jp_lists.specs.Steps.{Run, run_holds, scan_list, pair_of_sides, meant_of, method_list, tree_list}
use Rattle.jp_lists.proofs.MeantLists.{OrderAlike, method_same}
use Rattle.jp_lists.proofs.StageLaws.{IsPair, OfParts, class_made, parts_of, stage_made, list_made, filters_made, key_ok}

-- ---- the same values

module _ (run other : Run) where
  abbrev pub value_in : Run → Map → Expr → Value
  value_in r m e = value_given (r.sublinks (r.environment m)) e (r.environment m)

  abbrev pub IsSameAt : Expr → Type 0
  IsSameAt e = (m : Map) → value_in run m e ≡ value_in other m e

  conds_same : (conds : List Expr) → Each IsSameAt conds → (m : Map) → run_holds run conds m ≡ run_holds other conds m
  conds_same conds h m = holds_same (value_given (run.sublinks (run.environment m))) (value_given (other.sublinks (other.environment m))) (run.environment m) (other.environment m) conds
      (each_weaker IsSameAt (λ e. value_in run m e ≡ value_in other m e) (λ e s. s m) conds h)

  tests_same : (conds : List Expr) → Each IsSameAt conds → run_holds run conds ≡ run_holds other conds
  tests_same conds h = fun_ext (conds_same conds h)

  listed : (r : Run) (problem : Problem) (left right : ℕ) (kind : Step) (conds : List Expr) → list_holds (meant_of r problem left right kind) conds ≡ run_holds r conds
  unfolding list_holds
  listed r problem left right kind conds = refl

  module _ (problem : Problem) (Ok : Expr → Type 0) (up : (a b : Expr) → Ok a → Ok b → Ok (equals a b)) (down : (e : Expr) → Ok e → IsPair Ok (sides_of e)) (same : (e : Expr) → Ok e → IsSameAt e) (all : Each Ok (exprs_of problem)) (sources : run.sources ≡ other.sources) where
    parts : OfParts Ok problem
    parts = parts_of Ok problem all

    classes : (stage : Stage) → Each (λ (c : Class). Each Ok (of_class stage c)) problem.classes
    classes stage = each_weaker (λ c. Each Ok (class_exprs c)) (λ c. Each Ok (of_class stage c)) (class_made Ok Ok up stage) problem.classes parts.classes

    module _ (left right : ℕ) (kind : Step) where
      abbrev one : Meant
      one = meant_of run problem left right kind

      abbrev two : Meant
      two = meant_of other problem left right kind

      lists_same : (conds : List Expr) → Each Ok conds → list_holds one conds ≡ list_holds two conds
      lists_same conds h = listed run problem left right kind conds ∙ tests_same conds (each_weaker Ok IsSameAt same conds h) ∙ sym (listed other problem left right kind conds)

      on_same : is_match one ≡ is_match two
      on_same = lists_same one.on (list_made Ok problem parts.joins parts.clauses classes left right kind)

      filters_same : list_holds one one.filters ≡ list_holds two two.filters
      filters_same = lists_same one.filters (filters_made Ok problem parts.joins parts.clauses classes left right kind)

      before_same : (side : Expr) → Ok side → stands_before one side ≡ stands_before two side
      before_same side h = λ i a b. key_before (same side h a i) (same side h b i)

      orders_alike : (key : Option Sides) → IsPair Ok key → OrderAlike one two (option_map pair_of_sides key)
      orders_alike None h = tt
      orders_alike (Some s) h = (before_same s.first h.0, before_same s.second h.1)

      step_same : (how : Method) (l l' r r' : List Map) → l ≡ l' → r ≡ r' → method_list how one l r ≡ method_list how two l' r'
      step_same = method_same one two refl on_same filters_same refl (orders_alike (key_of problem left right kind) (key_ok Ok Ok down problem left right kind (list_made Ok problem parts.joins parts.clauses classes left right kind)))

    scan_same : (i : ℕ) → scan_list run problem i ≡ scan_list other problem i
    scan_same i = λ p. filter (tests_same (scan_clauses problem i) (each_weaker Ok IsSameAt same (scan_clauses problem i) (stage_made Ok problem parts.joins parts.clauses classes (scan_stage i))) p) (rows_of_item (length problem.items) i 0 (length (source_at (sources p) i)))

    pub trees_same : (t : Tree) → tree_list run problem t ≡ tree_list other problem t
    unfolding tree_list
    trees_same (Tree.Scan i) = scan_same i
    trees_same (Tree.Join how kind left right) = step_same (set_of left) (set_of right) kind how (tree_list run problem left) (tree_list other problem left) (tree_list run problem right) (tree_list other problem right) (trees_same left) (trees_same right)
