-- Trees of the frame that run the trees of a problem.
use Rattle.std.specs.Prelude.{◌≡◌, ℕ, zero, suc, Bool, List, [], map, Contains, None}
use Rattle.jp_query.specs.Meaning.{Env}
use Rattle.jp_problem.specs.declared.types.Clause.{Clause}
use Rattle.jp_problem.specs.declared.types.Method.{Method}
use Rattle.jp_problem.specs.declared.types.Method.TheVariants as method
use Rattle.jp_problem.specs.declared.types.Problem.{Problem}
use Rattle.jp_problem.specs.declared.types.Step.{Step}
use Rattle.jp_problem.specs.declared.types.Step.TheVariants as step
use Rattle.jp_problem.specs.Problems.{problem_rels}
use Rattle.jp_problem.specs.StepClauses.{step_clauses, scan_clauses}
use Rattle.jp_problem.specs.Trees.{Tree, set_of}
use Rattle.jp_frame.specs.Maps.{Map}
use Rattle.jp_frame.specs.Frames.{Frame}
use Rattle.jp_frame.specs.Methods.{Method as RunMethod, IsEnoughAtScan}
use Rattle.jp_frame.specs.Steps.{Step as RunStep, Inner, By, IsEnough}
use Rattle.jp_frame.specs.Trees.{Tree as Run, rows_of, set_of as run_set}
use Rattle.jp_framed.specs.Environments.{Setting, env_of}
use Rattle.jp_framed.specs.Framing.{frame_of, list_holds}

-- the join of number k + 1 stands at place k
abbrev pub step_of : Step → RunStep
step_of step.Inner = Inner
step_of (step.By zero) = By 0
step_of (step.By (suc k)) = By k

-- Merge sorts its sides by any two orders of maps
abbrev pub IsSameMethod : Method → RunMethod → Type 0
IsSameMethod method.Nest RunMethod.Nest = Unit {0}
IsSameMethod method.Hash RunMethod.Hash = Unit {0}
IsSameMethod method.HashRight RunMethod.HashRight = Unit {0}
IsSameMethod method.Merge (RunMethod.Merge by_left by_right) = Unit {0}
IsSameMethod _ _ = ⊥

-- A run of a tree has the same scans and steps by the same methods, with tests that are enough.
abbrev pub IsRunOf : Frame → Tree → Run → Type 0
IsRunOf f (Tree.Scan i) (Run.Scan j test) = (i ≡ j) × IsEnoughAtScan f j test
IsRunOf f (Tree.Join method kind left right) (Run.Join how step test on_left on_right) =
    IsSameMethod method how × (step ≡ step_of kind) × IsEnough f (run_set on_left) (run_set on_right) step test × IsRunOf f left on_left × IsRunOf f right on_right
IsRunOf f _ _ = ⊥

-- what a run gives: an environment for each of its maps
abbrev pub tuples_of_run : Problem → Setting → Run → List Env
tuples_of_run problem setting r = map (env_of (problem_rels problem) setting) (rows_of (frame_of problem setting) r)

-- ---- the clauses of a step and of a scan, as tests on maps

abbrev pub step_clauses_hold : Problem → Setting → ℕ → ℕ → Map → Bool
step_clauses_hold problem setting left right = list_holds (problem_rels problem) setting (step_clauses problem left right)

abbrev pub scan_clauses_hold : Problem → Setting → ℕ → Map → Bool
scan_clauses_hold problem setting i = list_holds (problem_rels problem) setting (scan_clauses problem i)

-- The orders by which Merge sorts the sides of a step, by the sets of its sides and its kind.
pub record Orders : Type 0 where
  pub by_left : ℕ → ℕ → Step → Map → Map → Bool
  pub by_right : ℕ → ℕ → Step → Map → Map → Bool

abbrev pub method_of : (Map → Map → Bool) → (Map → Map → Bool) → Method → RunMethod
method_of by_left by_right method.Nest = RunMethod.Nest
method_of by_left by_right method.Hash = RunMethod.Hash
method_of by_left by_right method.HashRight = RunMethod.HashRight
method_of by_left by_right method.Merge = RunMethod.Merge by_left by_right

-- the run of a tree whose tests are the clauses of its steps and scans
abbrev pub run_of : Problem → Setting → Orders → Tree → Run
run_of problem setting orders (Tree.Scan i) = Run.Scan i (scan_clauses_hold problem setting i)
run_of problem setting orders (Tree.Join method kind left right) =
    let l = set_of left in
    let r = set_of right in
    Run.Join (method_of (orders.by_left l r kind) (orders.by_right l r kind) method) (step_of kind) (step_clauses_hold problem setting l r) (run_of problem setting orders left) (run_of problem setting orders right)

-- no class, and no clause that is an equality of one
pub record HasNoClasses (problem : Problem) : Type 0 where
  pub classes : problem.classes ≡ []
  pub clauses : (c : Clause) → Contains problem.clauses c → c.class ≡ None
