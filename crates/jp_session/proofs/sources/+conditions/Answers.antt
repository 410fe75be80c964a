use Rattle.jp_session.specs.Parts.{condition_parts}
use Rattle.jp_session.proofs.PartLaws.{conds-beside, conds-nothing, member_pushed, none_pushed}
use Rattle.jp_session.proofs.sources.+conditions.Goals as goal

pub push_of_members-members-init : goal.push_of_members-members-init
push_of_members-members-init t c = none_pushed condition_parts c.args.parts.now.items conds-nothing

pub push_of_members-members-preserved : goal.push_of_members-members-preserved
push_of_members-members-preserved t c =
    member_pushed condition_parts conds-beside c.args.members.now c.members.member-index c.member-item.result c.args.parts.now.items c.members.parts.items c.push_conditions.new.parts.items c.members-test.true c.member-item.is c.members.invariant c.in_ok-push_conditions.ensures
