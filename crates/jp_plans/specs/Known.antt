-- The scans and steps of a block in its scene, with the rows of the sublinks that the scene knows.
use Rattle.std.specs.Prelude.{◌≡◌, ℕ, List, [], None}
use Rattle.std.specs.Option.{option_map}
use Rattle.jp_query.specs.declared.JoinKind.TheVariants as join
use Rattle.jp_problem.specs.declared.types.Method.{Method}
use Rattle.jp_problem.specs.declared.types.Method.TheVariants as method
use Rattle.jp_problem.specs.declared.types.Problem.{Problem}
use Rattle.jp_problem.specs.declared.types.Step.{Step}
use Rattle.jp_problem.specs.Keys.{key_list, key_of}
use Rattle.jp_problem.specs.StepClauses.{scan_clauses}
use Rattle.jp_frame.specs.Maps.{Map}
use Rattle.jp_joins.specs.Conditions.{CanLookUp}
use Rattle.jp_joins.specs.Meant.{Meant}
use Rattle.jp_lists.specs.Steps.{filters_of, kind_of_step, pair_of_sides}
use Rattle.jp_items.specs.Scenes.{rows_known}
use Rattle.jp_items.specs.Sights.{sight_env}
use Rattle.jp_items.specs.declared.scene.Scene.{Scene}

abbrev pub known_step : Scene → Problem → ℕ → ℕ → Step → Meant
known_step scene problem left right kind = record {
  kind = kind_of_step problem kind;
  environment = sight_env scene.sight;
  sublink_rows = rows_known scene;
  key = option_map pair_of_sides (key_of problem left right kind);
  on = key_list problem left right kind;
  filters = filters_of problem left right kind;
}

-- A scan is a left join of the item's rows to nothing, with the scan clauses as its filters.
abbrev pub known_scan : Scene → Problem → ℕ → Meant
known_scan scene problem item = record {
  kind = join.Left;
  environment = sight_env scene.sight;
  sublink_rows = rows_known scene;
  key = None;
  on = [];
  filters = scan_clauses problem item;
}

-- what a method asks beside what each asks
abbrev pub CanRun : Method → Meant → List Map → List Map → Type 0
CanRun method.Nest meant left right = Unit {0}
CanRun method.Hash meant left right = CanLookUp meant left right
CanRun method.HashRight meant left right = CanLookUp meant left right × (meant.kind ≡ join.Left)
CanRun method.Merge meant left right = CanLookUp meant left right
