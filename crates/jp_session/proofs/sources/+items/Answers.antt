use Rattle.jp_session.specs.Parts.{item_parts}
use Rattle.jp_session.proofs.PartLaws.{items-beside, items-nothing, member_pushed, none_pushed}
use Rattle.jp_session.proofs.sources.+items.Goals as goal

pub push_members-members-init : goal.push_members-members-init
push_members-members-init t c = none_pushed item_parts c.args.parts.now.items items-nothing

pub push_members-members-preserved : goal.push_members-members-preserved
push_members-members-preserved t c =
    member_pushed item_parts items-beside c.args.members.now c.members.member-index c.member-item.result c.args.parts.now.items c.members.parts.items c.push_items.new.parts.items c.members-test.true c.member-item.is c.members.invariant c.in_ok-push_items.ensures
