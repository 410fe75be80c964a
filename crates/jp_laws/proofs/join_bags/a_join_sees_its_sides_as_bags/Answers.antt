use Rattle.jp_laws.proofs.JoinBags.{join_bag}
use Rattle.jp_laws.proofs.join_bags.a_join_sees_its_sides_as_bags.Goals as goal

pub returns : goal.returns
returns c = join_bag
