use Rattle.jp_problem.proofs.SetTests.{only_is}
use Rattle.jp_problem.proofs.sets.one.Goals as goal

pub returns : goal.returns
returns c = only_is c.args.item c.one.result c.one.ensures.members
