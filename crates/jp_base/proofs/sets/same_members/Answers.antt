use Rattle.jp_base.proofs.SetLemmas.{same_set}
use Rattle.jp_base.proofs.sets.same_members.Goals as goal

pub returns : goal.returns
returns c = same_set
