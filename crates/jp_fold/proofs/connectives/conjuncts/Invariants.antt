use Rattle.std.proofs.Common.{◌≡◌, ◌++◌, map, length, reverse}
use Rattle.jp_query.specs.Parts.{all_in}
use Rattle.jp_folding.specs.Folding as folding
use Rattle.jp_fold.proofs.connectives.conjuncts.Given as goal

abbrev pub invariant-members : goal.invariant-members
invariant-members l = l.out ++ all_in (map folding.and_members (reverse l.rest)) ≡ all_in (map folding.and_members l.fn.members)

abbrev pub decreases-members : goal.decreases-members
decreases-members l = length l.rest
