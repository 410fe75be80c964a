use Rattle.std.proofs.Common.{◌≡◌, drop}
use Rattle.std.specs.Prelude.{bit_or}
use Rattle.jp_problem.specs.Blocks.{rels_from}
use Rattle.jp_special.proofs.relations.rels_at.Given as goal

abbrev pub invariant-items : goal.invariant-items
invariant-items l = bit_or l.found (rels_from l.i (drop l.i l.rels) l.set) ≡ rels_from 0 l.rels l.set
