use Rattle.std.proofs.Common.{◌≡◌, drop, map}
use Rattle.jp_problem.specs.KeyTests.{lies_from}
use Rattle.jp_problem.specs.Problems.{rels_of_item}
use Rattle.jp_plans.proofs.keys.lies_in.Given as goal

abbrev pub invariant-items : goal.invariant-items
invariant-items l = lies_from (map rels_of_item (drop l.i l.items)) l.set l.rels l.i ≡ lies_from (map rels_of_item l.items) l.set l.rels 0
