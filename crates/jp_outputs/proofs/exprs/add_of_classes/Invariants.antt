use Rattle.std.proofs.Common.{◌≡◌, ◌++◌, take}
use Rattle.std.specs.List.{flat_map}
use Rattle.jp_problem.specs.Made.{class_exprs}
use Rattle.jp_outputs.specs.Exprs.{lent_exprs}
use Rattle.jp_outputs.proofs.exprs.add_of_classes.Given as goal

abbrev pub invariant-classes : goal.invariant-classes
invariant-classes l = lent_exprs l.list.items ≡ lent_exprs l.fn.list.items ++ flat_map class_exprs (take l.class-index l.classes)
