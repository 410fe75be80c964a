use Rattle.std.proofs.Common.{refl}
use Rattle.jp_frame.proofs.ExampleLaws.{bushy_is_legal}
use Rattle.jp_frame.proofs.examples.a_hanging_join_may_come_first.Goals as goal

pub returns : goal.returns
returns c = record { legal = bushy_is_legal; rows = refl }
