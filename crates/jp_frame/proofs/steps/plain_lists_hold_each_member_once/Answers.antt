use Rattle.std.specs.Prelude.{bit_or}
use Rattle.jp_frame.specs.Methods.{plain}
use Rattle.jp_frame.proofs.BagLaws.{plain_lists}
use Rattle.jp_frame.proofs.TreeLaws.{once_from, from_once}
use Rattle.jp_frame.proofs.steps.plain_lists_hold_each_member_once.Goals as goal

pub returns : goal.returns
returns c f left right step test ls rs ok legal enough l r =
    once_from f (bit_or left right) (plain f step test ls rs) (plain_lists f ok left right step test ls rs legal enough (from_once f left ls l) (from_once f right rs r))
