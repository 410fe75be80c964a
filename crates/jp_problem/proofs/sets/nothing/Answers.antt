use Rattle.jp_query.proofs.SetWords.{empty_is}
use Rattle.jp_problem.proofs.sets.nothing.Goals as goal

pub returns : goal.returns
returns c = empty_is c.empty.result c.empty.ensures.members
