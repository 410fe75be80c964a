use Rattle.std.proofs.Common.{◌≡◌, ◌++◌, map, take}
use Rattle.jp_problem.specs.Blocks.{output_expr}
use Rattle.jp_outputs.specs.Exprs.{lent_exprs}
use Rattle.jp_outputs.proofs.exprs.add_outputs.Given as goal

abbrev pub invariant-columns : goal.invariant-columns
invariant-columns l = lent_exprs l.list.items ≡ lent_exprs l.fn.list.items ++ map output_expr (take l.column-index l.columns)
