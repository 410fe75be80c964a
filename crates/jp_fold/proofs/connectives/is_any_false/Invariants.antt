use Rattle.std.proofs.Common.{◌≡◌, drop}
use Rattle.std.specs.List.{list_any}
use Rattle.jp_folding.specs.Folding as folding
use Rattle.jp_fold.proofs.connectives.is_any_false.Given as goal

abbrev pub invariant-loop-member : goal.invariant-loop-member
invariant-loop-member l = list_any folding.is_false (drop l.member-index l.members) ≡ list_any folding.is_false l.members
