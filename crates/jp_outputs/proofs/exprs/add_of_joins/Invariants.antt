use Rattle.std.proofs.Common.{◌≡◌, ◌++◌, take}
use Rattle.std.specs.List.{flat_map}
use Rattle.jp_problem.specs.Made.{join_exprs}
use Rattle.jp_outputs.specs.Exprs.{lent_exprs}
use Rattle.jp_outputs.proofs.exprs.add_of_joins.Given as goal

abbrev pub invariant-joins : goal.invariant-joins
invariant-joins l = lent_exprs l.list.items ≡ lent_exprs l.fn.list.items ++ flat_map join_exprs (take l.join-index l.joins)
