use Rattle.jp_laws.proofs.FirstLines.{first_lines_bag}
use Rattle.jp_laws.proofs.distinct.distinct_sees_its_lines_as_a_bag.Goals as goal

pub returns : goal.returns
returns c = first_lines_bag
