use Rattle.jp_query.proofs.SetWords.{union_is}
use Rattle.jp_strict.proofs.absence.both.Goals as goal

pub returns : goal.returns
returns c = union_is c.args.a c.args.b c.union.result c.union.ensures.members
