use Rattle.jp_base.proofs.SetLemmas.{within_le}
use Rattle.jp_base.proofs.WalkLemmas.{walk_meets}
use Rattle.jp_base.proofs.sets.each_part_once.Goals as goal

pub returns : goal.returns
returns c = λ set parts walk q within. (walk_meets set set parts walk q within).once (within_le q set within)
