use Rattle.jp_query.proofs.SetWords.{union_is}
use Rattle.jp_problem.proofs.sets.both.Goals as goal

pub returns-clause-is : goal.returns-clause-is
returns-clause-is c = union_is c.args.a c.args.b c.union.result c.union.ensures.members
