use Rattle.jp_laws.proofs.SideLaws.{left_keeps}
use Rattle.jp_laws.proofs.sides.left_join_keeps_each_left_tuple.Goals as goal

pub returns : goal.returns
returns c = left_keeps
