use Rattle.std.proofs.Common.{◌≡◌, ◌++◌, filter, take}
use Rattle.std.specs.List.{flat_map}
use Rattle.jp_problem.specs.StepClauses.{is_open_class, of_class}
use Rattle.jp_problem.proofs.step_clauses.push_classes.Given as goal

abbrev pub invariant-classes : goal.invariant-classes
invariant-classes l = l.list ≡ l.initial.list ++ flat_map (of_class l.stage) (filter (is_open_class l.joins l.stage.whole) (take l.class-index l.classes))
