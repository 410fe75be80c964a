use Rattle.jp_special.proofs.OutlineLaws.{loop_more}
use Rattle.jp_special.proofs.outlines.+conditions.Goals as goal

pub in_members-members-preserved : goal.in_members-members-preserved
in_members-members-preserved t c =
    loop_more c.args.members.now c.members.member-index c.member-item.result c.members.all c.in_ok-more.more c.in_ok-all.all c.members-test.true c.member-item.is c.members.invariant c.in_ok-more.ensures c.in_ok-all.ensures
