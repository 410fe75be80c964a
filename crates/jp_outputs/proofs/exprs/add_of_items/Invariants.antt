use Rattle.std.proofs.Common.{◌≡◌, ◌++◌, take}
use Rattle.std.specs.List.{flat_map}
use Rattle.jp_problem.specs.Made.{item_exprs}
use Rattle.jp_outputs.specs.Exprs.{lent_exprs}
use Rattle.jp_outputs.proofs.exprs.add_of_items.Given as goal

abbrev pub invariant-items : goal.invariant-items
invariant-items l = lent_exprs l.list.items ≡ lent_exprs l.fn.list.items ++ flat_map item_exprs (take l.item-index l.items)
