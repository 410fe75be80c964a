use Rattle.std.proofs.Common.{◌≡◌, map, take}
use Rattle.jp_problem.specs.Problems.{rels_of_item}
use Rattle.jp_quals.proofs.tests.items_with.Given as goal

abbrev pub invariant-rels : goal.invariant-rels
invariant-rels l = map rels_of_item l.items.items ≡ take l.rel-index l.rels
