use Rattle.std.proofs.Common.{◌≡◌, map, take}
use Rattle.jp_problem.specs.Blocks.{placed_in}
use Rattle.jp_special.proofs.conditions.placed.Given as goal

abbrev pub invariant-conds : goal.invariant-conds
invariant-conds l = l.list ≡ map (placed_in l.rels l.region) (take l.e-index l.conds)
