use Rattle.std.proofs.Common.{◌≡◌, ◌++◌, map, take}
use Rattle.jp_problem.specs.Blocks.{order_expr}
use Rattle.jp_outputs.specs.Exprs.{lent_exprs}
use Rattle.jp_outputs.proofs.exprs.add_keys.Given as goal

abbrev pub invariant-keys : goal.invariant-keys
invariant-keys l = lent_exprs l.list.items ≡ lent_exprs l.fn.list.items ++ map order_expr (take l.key-index l.order)
