use Rattle.std.proofs.Common.{◌≡◌, take}
use Rattle.jp_problem.specs.MinimumSets.{kept_placeholders}
use Rattle.jp_special.proofs.right_side.kept_placeholders.Given as goal

abbrev pub invariant-placeholders : goal.invariant-placeholders
invariant-placeholders l = l.kept ≡ kept_placeholders (take l.items-index l.placeholders) l.s
