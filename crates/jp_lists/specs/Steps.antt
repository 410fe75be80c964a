-- What a scan and a step of a block's plan list, and the whole plan, as maps from the block's items to their rows.
use Rattle.std.specs.Prelude.{ℕ, Bool, List, [], map, filter, length, Option, Some, None}
use Rattle.std.specs.Option.{option_map}
use Rattle.jp_query.specs.declared.Expr.{Expr}
use Rattle.jp_query.specs.declared.JoinKind.{JoinKind}
use Rattle.jp_query.specs.declared.JoinKind.TheVariants as join
use Rattle.jp_query.specs.Meaning.{Row, Env, holds, value_given}
use Rattle.jp_problem.specs.declared.types.Method.{Method}
use Rattle.jp_problem.specs.declared.types.Method.TheVariants as method
use Rattle.jp_problem.specs.declared.types.Problem.{Problem}
use Rattle.jp_problem.specs.declared.types.Special.{Special}
use Rattle.jp_problem.specs.declared.types.Step.{Step}
use Rattle.jp_problem.specs.declared.types.Step.TheVariants as step
use Rattle.jp_problem.specs.Equalities.{Sides}
use Rattle.jp_problem.specs.Keys.{key_list, key_of}
use Rattle.jp_problem.specs.Problems.{join_of}
use Rattle.jp_problem.specs.StepClauses.{scan_clauses, step_clauses}
use Rattle.jp_problem.specs.Trees.{Tree, set_of}
use Rattle.jp_frame.specs.Maps.{Map}
use Rattle.jp_frame.specs.Methods.{rows_of_item}
use Rattle.jp_framed.specs.Environments.{source_at}
use Rattle.jp_joins.specs.Meant.{Meant, plain_list, right_list}
use Rattle.jp_joins.specs.Sorting.{merged_list}

-- What the maps of a block stand for: the rows of its items, the environment of a map, and the rows of each kept sublink in
-- an environment.
pub record Run : Type 0 where
  pub sources : List (List Env)
  pub environment : Map → Env
  pub sublinks : Env → ℕ → List Row

-- whether a list of conditions holds at a map
abbrev pub run_holds : Run → List Expr → Map → Bool
run_holds run conds m = holds (map (value_given (run.sublinks (run.environment m))) conds) (run.environment m)

-- the rows of an item, in their order, that make its scan clauses true
abbrev pub scan_list : Run → Problem → ℕ → List Map
scan_list run problem i = filter (run_holds run (scan_clauses problem i)) (rows_of_item (length problem.items) i 0 (length (source_at run.sources i)))

abbrev pub kind_of_join : Option Special → JoinKind
kind_of_join (Some s) = s.kind
kind_of_join None = join.Inner

abbrev pub kind_of_step : Problem → Step → JoinKind
kind_of_step problem step.Inner = join.Inner
kind_of_step problem (step.By number) = kind_of_join (join_of problem.joins number)

-- the step clauses of an inner step are what a match makes true; those of a step by a join are tested afterwards
abbrev pub filters_of : Problem → ℕ → ℕ → Step → List Expr
filters_of problem left right step.Inner = []
filters_of problem left right (step.By number) = step_clauses problem left right

abbrev pub pair_of_sides : Sides → Expr × Expr
pair_of_sides sides = (sides.first, sides.second)

abbrev pub meant_of : Run → Problem → ℕ → ℕ → Step → Meant
meant_of run problem left right kind = record {
  kind = kind_of_step problem kind;
  environment = run.environment;
  sublink_rows = λ m. run.sublinks (run.environment m);
  key = option_map pair_of_sides (key_of problem left right kind);
  on = key_list problem left right kind;
  filters = filters_of problem left right kind;
}

-- Nest and Hash give the plain list, HashRight goes by right tuples, Merge gives the plain list over sorted sides.
abbrev pub method_list : Method → Meant → List Map → List Map → List Map
method_list method.Nest meant left right = plain_list meant left right
method_list method.Hash meant left right = plain_list meant left right
method_list method.HashRight meant left right = right_list meant left right
method_list method.Merge meant left right = merged_list meant left right

unfoldable pub tree_list : Run → Problem → Tree → List Map
tree_list run problem (Tree.Scan i) = scan_list run problem i
tree_list run problem (Tree.Join how kind left right) = method_list how (meant_of run problem (set_of left) (set_of right) kind) (tree_list run problem left) (tree_list run problem right)
