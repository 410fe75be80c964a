use Rattle.std.proofs.Common.{◌≡◌, map, take}
use Rattle.jp_problem.specs.Blocks.{items_with}
use Rattle.jp_special.proofs.outlines.items_of_each.Given as goal

abbrev pub invariant-placeholders : goal.invariant-placeholders
invariant-placeholders l = l.items ≡ map (items_with l.rels) (take l.place-index l.placeholders)
