use Rattle.jp_special.proofs.SetWords.{only_is}
use Rattle.jp_special.proofs.conditions.one.Goals as goal

pub returns : goal.returns
returns c = only_is c.args.i c.one.result c.one.ensures.members
