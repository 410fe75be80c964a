use Rattle.std.proofs.Common.{rules}
use Rattle.jp_query.specs.declared.Expr.{the_lemmas}
use Rattle.jp_special.proofs.WalkLaws as law
use Rattle.jp_special.proofs.walk.+walk.Goals as goal

pub walk-walk-requires : goal.walk-walk-requires
walk-walk-requires t c = (search (rules, the_lemmas), (c.requires.few, law.inner_left_of c.args.at c.args.tree.now c.in-Join.kind c.in-Join.left c.in-Join.right c.in-Join.on c.in-Join.is c.requires.room c.if-is_inner.ensures c.get.result.now c.get.ensures))

pub walk-behind-requires : goal.walk-behind-requires
walk-behind-requires t c = law.inner_left_of c.args.at c.args.tree.now c.in-Join.kind c.in-Join.left c.in-Join.right c.in-Join.on c.in-Join.is c.requires.room c.if-is_inner.ensures c.get-then-is_inner.result.now c.get-then-is_inner.ensures

pub walk-walk-requires-then-is_inner : goal.walk-walk-requires-then-is_inner
walk-walk-requires-then-is_inner t c =
    (search (rules, the_lemmas), (c.requires.few, law.inner_right_of c.args.at c.args.tree.now c.in-Join.kind c.in-Join.left c.in-Join.right c.in-Join.on c.in-Join.is c.requires.room c.if-is_inner.ensures c.get-then-is_inner-2.result.now c.get-then-is_inner.result.now c.in_ok-there-in-Join.there c.get-then-is_inner-2.ensures c.get-then-is_inner.ensures c.in_ok-there-in-Join.ensures))

pub walk-walk-requires-else-is_inner : goal.walk-walk-requires-else-is_inner
walk-walk-requires-else-is_inner t c =
    (search (rules, the_lemmas), (c.requires.few, law.special_left_of c.args.at c.args.tree.now c.in-Join.kind c.in-Join.left c.in-Join.right c.in-Join.on c.in-Join.is c.requires.room c.if-is_one_item.ensures c.if-is_inner.ensures c.get-else-is_inner.result.now c.get-else-is_inner.ensures))

pub walk-in_right_side-requires : goal.walk-in_right_side-requires
walk-in_right_side-requires t c =
    law.special_whole_of c.args.at c.args.tree.now c.in-Join.kind c.in-Join.left c.in-Join.right c.in-Join.on c.in-Join.is c.requires.room c.if-is_one_item.ensures c.if-is_inner.ensures c.get-else-is_inner-2.result.now c.get-else-is_inner-3.result.now c.as_slice-else-is_inner.result.now c.get-else-is_inner-2.ensures c.get-else-is_inner-3.ensures c.as_slice-else-is_inner.ensures

pub walk-walk-requires-else-is_inner-2 : goal.walk-walk-requires-else-is_inner-2
walk-walk-requires-else-is_inner-2 t c =
    (search (rules, the_lemmas), (c.requires.few, law.special_right_of c.args.at c.args.tree.now c.in-Join.kind c.in-Join.left c.in-Join.right c.in-Join.on c.in-Join.is c.requires.room c.if-is_one_item.ensures c.if-is_inner.ensures c.get-else-is_inner-2.result.now c.get-else-is_inner-3.result.now c.get-else-is_inner-4.result.now c.in_ok-there-in-Join-2.there c.get-else-is_inner-2.ensures c.get-else-is_inner-3.ensures c.get-else-is_inner-4.ensures c.in_ok-there-in-Join-2.ensures))

pub walk-written-requires-clause-room : goal.walk-written-requires-clause-room
walk-written-requires-clause-room t c =
    law.special_whole_of c.args.at c.args.tree.now c.in-Join.kind c.in-Join.left c.in-Join.right c.in-Join.on c.in-Join.is c.requires.room c.if-is_one_item.ensures c.if-is_inner.ensures c.get-else-is_inner-5.result.now c.get-else-is_inner-6.result.now c.as_slice-else-is_inner-2.result.now c.get-else-is_inner-5.ensures c.get-else-is_inner-6.ensures c.as_slice-else-is_inner-2.ensures

pub walk-walk_members-requires : goal.walk-walk_members-requires
walk-walk_members-requires t c =
    (search (rules, the_lemmas), (c.requires.few, law.from_room c.args.rels.now c.args.at c.args.tree.now c.in-From.members c.in-From.conds c.in-From.is c.requires.room c.as_slice-in-From.result.now c.as_slice-in-From.ensures))

pub walk-returns-in-Base : goal.walk-returns-in-Base
walk-returns-in-Base t c = law.base_gives c.args.rels.now c.args.at c.args.tree.now c.in-Base.rel c.in-Base.name c.in-Base.table c.in-Base.is c.nothing_walked.result c.nothing_walked.ensures

pub walk-returns-in-Sub : goal.walk-returns-in-Sub
walk-returns-in-Sub t c = law.sub_gives c.args.rels.now c.args.at c.args.tree.now c.in-Sub.rel c.in-Sub.name c.in-Sub.query c.in-Sub.is c.nothing_walked-in-Sub.result c.nothing_walked-in-Sub.ensures

pub walk-returns-then-is_one_item : goal.walk-returns-then-is_one_item
walk-returns-then-is_one_item t c = law.full_gives c.args.rels.now c.args.at c.args.tree.now c.in-Join.kind c.in-Join.left c.in-Join.right c.in-Join.on c.in-Join.is c.if-is_one_item.ensures c.nothing_walked-then-is_one_item.result c.nothing_walked-then-is_one_item.ensures

pub walk-returns-in_ok-walked-in-Join-2 : goal.walk-returns-in_ok-walked-in-Join-2
walk-returns-in_ok-walked-in-Join-2 t c =
    law.inner_gives c.args.rels.now c.args.at c.args.tree.now c.in-Join.kind c.in-Join.left c.in-Join.right c.in-Join.on c.in-Join.is c.if-is_inner.ensures c.get.result.now c.get-then-is_inner.result.now c.get-then-is_inner-2.result.now c.as_slice.result.now c.in_ok-there-in-Join.there c.in_ok-first-in-Join.first c.in_ok-second-in-Join.second c.in_ok-walked-in-Join.walked c.in_ok-walked-in-Join-2.walked
    c.get.ensures c.get-then-is_inner.ensures c.get-then-is_inner-2.ensures c.as_slice.ensures c.in_ok-there-in-Join.ensures c.in_ok-first-in-Join.ensures c.in_ok-second-in-Join.ensures c.in_ok-walked-in-Join.ensures c.in_ok-walked-in-Join-2.ensures

pub walk-returns-in_ok-walked-in-Join-4 : goal.walk-returns-in_ok-walked-in-Join-4
walk-returns-in_ok-walked-in-Join-4 t c =
    law.special_gives c.args.rels.now c.args.at c.args.tree.now c.in-Join.kind c.in-Join.left c.in-Join.right c.in-Join.on c.in-Join.is c.if-is_one_item.ensures c.if-is_inner.ensures c.get-else-is_inner.result.now c.get-else-is_inner-2.result.now c.get-else-is_inner-5.result.now c.get-else-is_inner-4.result.now c.get-else-is_inner-3.result.now c.get-else-is_inner-6.result.now c.as_slice-else-is_inner-2.result.now c.as_slice-else-is_inner-3.result.now c.in_ok-there-in-Join-2.there c.in_ok-own-in-Join.own c.in_ok-first-in-Join-2.first c.in_ok-second-in-Join-2.second c.in_ok-walked-in-Join-3.walked c.in_ok-walked-in-Join-4.walked
    c.get-else-is_inner.ensures c.get-else-is_inner-2.ensures c.get-else-is_inner-5.ensures c.get-else-is_inner-4.ensures c.get-else-is_inner-3.ensures c.get-else-is_inner-6.ensures c.as_slice-else-is_inner-2.ensures c.as_slice-else-is_inner-3.ensures
    c.in_ok-there-in-Join-2.ensures c.in_ok-first-in-Join-2.ensures c.in_ok-second-in-Join-2.ensures c.in_ok-walked-in-Join-3.ensures c.in_ok-own-in-Join.ensures c.in_ok-walked-in-Join-4.ensures

pub walk-returns-in_ok-walked-in-From-2 : goal.walk-returns-in_ok-walked-in-From-2
walk-returns-in_ok-walked-in-From-2 t c =
    law.from_gives c.args.rels.now c.args.at c.args.tree.now c.in-From.members c.in-From.conds c.in-From.is c.as_slice-in-From.result.now c.as_slice-in-From-2.result.now c.in_ok-walked-in-From.walked c.in_ok-walked-in-From-2.walked c.as_slice-in-From.ensures c.as_slice-in-From-2.ensures c.in_ok-walked-in-From.ensures c.in_ok-walked-in-From-2.ensures

pub walk_members-walk-requires : goal.walk_members-walk-requires
walk_members-walk-requires t c =
    (search (rules, the_lemmas), (c.requires.few, law.room_member_of c.args.at c.args.members.now c.members.member-index c.member-item.result c.members.there c.members-test.true c.member-item.is c.members.invariant.0 c.requires.room))

pub walk_members-behind-requires : goal.walk_members-behind-requires
walk_members-behind-requires t c = law.room_member_of c.args.at c.args.members.now c.members.member-index c.member-item.result c.members.there c.members-test.true c.member-item.is c.members.invariant.0 c.requires.room
