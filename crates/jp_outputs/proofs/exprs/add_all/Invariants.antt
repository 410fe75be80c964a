use Rattle.std.proofs.Common.{◌≡◌, ◌++◌, take}
use Rattle.jp_outputs.specs.Exprs.{lent_exprs}
use Rattle.jp_outputs.proofs.exprs.add_all.Given as goal

abbrev pub invariant-exprs : goal.invariant-exprs
invariant-exprs l = lent_exprs l.list.items ≡ lent_exprs l.fn.list.items ++ take l.expr-index l.exprs
