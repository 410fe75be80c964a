-- The plan of a block as a run of its tree in the frame with sublinks in place.
use Rattle.std.specs.Prelude.{◌≡◌, ℕ, Bool, false, List, Contains, Option, Some, None}
use Rattle.jp_query.specs.declared.Expr.{Expr}
use Rattle.jp_query.specs.Meaning.{Row, Env, value_given}
use Rattle.jp_problem.specs.declared.types.Clause.{Clause}
use Rattle.jp_problem.specs.declared.types.Problem.{Problem}
use Rattle.jp_problem.specs.declared.types.Special.{Special}
use Rattle.jp_problem.specs.Equalities.{Sides}
use Rattle.jp_problem.specs.Keys.{key_of}
use Rattle.jp_problem.specs.Problems.{problem_rels}
use Rattle.jp_frame.specs.Maps.{Map}
use Rattle.jp_framed.specs.Environments.{Setting, value_by, env_of}
use Rattle.jp_framed.specs.Running.{Orders}
use Rattle.jp_joins.specs.Meant.{Meant}
use Rattle.jp_joins.specs.Sorting.{stands_before}
use Rattle.jp_lists.specs.Steps.{Run, meant_of}

-- the maps of a setting, with given rows for sublinks
abbrev pub run_in : Problem → Setting → (Env → ℕ → List Row) → Run
run_in problem setting rows = record { sources = setting.sources; environment = env_of (problem_rels problem) setting; sublinks = rows }

-- at each map the expression has the value that the setting gives it
abbrev pub HasItsValue : Problem → Setting → (Env → ℕ → List Row) → Expr → Type 0
HasItsValue problem setting rows e =
    (m : Map) → value_given (rows (env_of (problem_rels problem) setting m)) e (env_of (problem_rels problem) setting m) ≡ value_by setting.sublinks e (env_of (problem_rels problem) setting m)

pub record HaveTheirValues (problem : Problem) (setting : Setting) (rows : Env → ℕ → List Row) : Type 0 where
  pub on : (s : Special) (e : Expr) → Contains problem.joins s → Contains s.on e → HasItsValue problem setting rows e
  pub clauses : (c : Clause) → Contains problem.clauses c → HasItsValue problem setting rows c.expr

-- ---- the orders of a merge

abbrev pub by_first : Meant → Option Sides → Map → Map → Bool
by_first meant (Some sides) = stands_before meant sides.first
by_first meant None = λ a b. false

abbrev pub by_second : Meant → Option Sides → Map → Map → Bool
by_second meant (Some sides) = stands_before meant sides.second
by_second meant None = λ a b. false

-- those of the sides of the step's key
abbrev pub key_orders : Run → Problem → Orders
key_orders run problem = record {
  by_left = λ left right kind. by_first (meant_of run problem left right kind) (key_of problem left right kind);
  by_right = λ left right kind. by_second (meant_of run problem left right kind) (key_of problem left right kind);
}
