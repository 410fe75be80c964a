use Rattle.std.proofs.Common.{◌≡◌, drop}
use Rattle.std.specs.Prelude.{bit_or}
use Rattle.jp_problem.specs.Blocks.{items_from}
use Rattle.jp_special.proofs.conditions.items_with.Given as goal

abbrev pub invariant-items : goal.invariant-items
invariant-items l = bit_or l.found (items_from l.i (drop l.i l.rels) l.set) ≡ items_from 0 l.rels l.set
