use Rattle.jp_problem.proofs.SetTests.{none_is_empty}
use Rattle.jp_problem.proofs.sets.is_empty.Goals as goal

pub returns : goal.returns
returns c = none_is_empty c.args.a c.first.result c.is_none.result c.first.ensures.none c.is_none.ensures
