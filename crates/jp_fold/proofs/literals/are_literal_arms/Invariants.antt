use Rattle.std.proofs.Common.{◌≡◌, drop}
use Rattle.std.specs.List.{list_all}
use Rattle.jp_query.specs.Parts.{arm_parts}
use Rattle.jp_folding.specs.Folding as folding
use Rattle.jp_fold.proofs.literals.are_literal_arms.Given as goal

abbrev pub invariant-loop-when : goal.invariant-loop-when
invariant-loop-when l = list_all folding.is_literal (arm_parts (drop l.when-index l.arms)) ≡ list_all folding.is_literal (arm_parts (l.arms))
