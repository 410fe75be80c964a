use Rattle.jp_base.proofs.SetLemmas.{small_below}
use Rattle.jp_base.proofs.sets.members_below.Goals as goal

pub returns : goal.returns
returns c = small_below
