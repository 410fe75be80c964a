use Rattle.jp_laws.proofs.JoinBags.{from_bag}
use Rattle.jp_laws.proofs.join_bags.a_from_sees_its_members_as_bags.Goals as goal

pub returns : goal.returns
returns c = from_bag
