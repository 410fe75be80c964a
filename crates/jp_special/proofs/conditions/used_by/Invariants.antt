use Rattle.std.proofs.Common.{◌≡◌, take}
use Rattle.jp_problem.specs.Blocks.{used_by}
use Rattle.jp_special.proofs.conditions.used_by.Given as goal

abbrev pub invariant-conds : goal.invariant-conds
invariant-conds l = l.items ≡ used_by l.rels (take l.e-index l.conds)
