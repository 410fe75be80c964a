use Rattle.std.proofs.Common.{◌≡◌, map, take}
use Rattle.jp_problem.specs.Problems.{rels_of_item}
use Rattle.jp_exec.proofs.places.rels_of_items.Given as goal

abbrev pub invariant-items : goal.invariant-items
invariant-items l = l.rels.items ≡ map rels_of_item (take l.item-index l.items)
