use Rattle.std.proofs.Common.{◌≡◌, fold, take}
use Rattle.jp_cost.specs.Steps.{by_class}
use Rattle.jp_cost.proofs.conditions.after_classes.Given as goal

abbrev pub invariant-classes : goal.invariant-classes
invariant-classes l = l.rows ≡ fold (by_class l.problem l.set l.pick) l.initial.rows (take l.class-index l.problem.classes)
