use Rattle.std.proofs.Common.{◌≡◌, drop}
use Rattle.jp_problem.specs.MinimumSets.{any_anchor_from}
use Rattle.jp_special.proofs.right_side.has_anchor.Given as goal

abbrev pub invariant-items : goal.invariant-items
invariant-items l = any_anchor_from l.i (drop l.i l.rels) l.nulled l.u ≡ any_anchor_from 0 l.rels l.nulled l.u
