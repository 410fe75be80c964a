use Rattle.jp_problem.proofs.SetTests.{without_is}
use Rattle.jp_problem.proofs.sets.without.Goals as goal

pub returns : goal.returns
returns c = without_is c.args.a c.args.b c.minus.result c.minus.ensures.members
