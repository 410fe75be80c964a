use Rattle.jp_strict.proofs.SharedSets.{common_is}
use Rattle.jp_strict.proofs.absence.common.Goals as goal

pub returns : goal.returns
returns c = common_is c.args.a c.args.b c.minus.result c.minus-2.result c.minus.ensures.members c.minus-2.ensures.members
