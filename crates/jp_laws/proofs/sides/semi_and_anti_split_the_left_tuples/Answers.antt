use Rattle.jp_laws.proofs.SideLaws.{sides_split}
use Rattle.jp_laws.proofs.sides.semi_and_anti_split_the_left_tuples.Goals as goal

pub returns : goal.returns
returns c = sides_split
