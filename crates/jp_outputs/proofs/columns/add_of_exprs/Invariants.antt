use Rattle.std.proofs.Common.{◌≡◌, ◌++◌, take}
use Rattle.std.specs.List.{flat_map}
use Rattle.jp_outputs.specs.Columns.{places_in}
use Rattle.jp_outputs.specs.Exprs.{lent_exprs}
use Rattle.jp_outputs.proofs.columns.add_of_exprs.Given as goal

abbrev pub invariant-exprs : goal.invariant-exprs
invariant-exprs l = l.list.items ≡ l.fn.list.items ++ flat_map places_in (lent_exprs (take l.expr-index l.exprs))
