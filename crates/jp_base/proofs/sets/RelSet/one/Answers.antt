use Rattle.jp_base.proofs.SetLemmas.{only_one}
use Rattle.jp_base.proofs.sets.RelSet.one.Goals as goal

pub returns-clause-members : goal.returns-clause-members
returns-clause-members c = λ k. only_one c.args.i k c.requires
