use Rattle.jp_laws.proofs.JoinBags.{left_splits}
use Rattle.jp_laws.proofs.join_bags.left_is_inner_and_anti.Goals as goal

pub returns : goal.returns
returns c = λ on l r lefts rights. left_splits on l r rights lefts
