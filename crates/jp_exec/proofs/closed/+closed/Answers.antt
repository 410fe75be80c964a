use Rattle.std.proofs.Common.{◌∙◌, ap, rules, subst, sym}
use Rattle.std.specs.Prelude.{◌<◌, bit_or, length}
use Rattle.jp_facts.proofs.Members.{to_in}
use Rattle.jp_lists.specs.Lists.{block_of_sublink}
use Rattle.jp_tree.specs.BlockParts.{sublinks_of}
use Rattle.jp_outputs.specs.Exprs.{sublink_number}
use Rattle.std.specs.Prelude.{map}
use Rattle.jp_exec.proofs.ClosedFacts.{item_place, left_named, refers_by, right_named, sub_further, sub_there}
use Rattle.jp_exec.proofs.CycleFacts.{block_is, sub_named}
use Rattle.jp_exec.proofs.closed.+closed.Goals as goal

pub item_within-refers_within-requires : goal.item_within-refers_within-requires
item_within-refers_within-requires t c =
    let place = item_place c.args.prepared.now c.requires.whole c.args.number c.args.block.now c.requires.there c.args.item.now c.requires.held c.in-Sub.block (sub_named c.args.item.now c.in-Sub.rel c.in-Sub.block c.in-Sub.is) in
    let further = place.0 in
    (search (rules, further), (c.requires.whole, place.1))

pub item_within-refers_within-requires-in-Full : goal.item_within-refers_within-requires-in-Full
item_within-refers_within-requires-in-Full t c =
    let place = item_place c.args.prepared.now c.requires.whole c.args.number c.args.block.now c.requires.there c.args.item.now c.requires.held c.in-Full.left (left_named c.args.item.now c.in-Full.left c.in-Full.right _ c.in-Full.is) in
    let further = place.0 in
    (search (rules, further), (c.requires.whole, place.1))

pub item_within-refers_within-requires-in-Full-2 : goal.item_within-refers_within-requires-in-Full-2
item_within-refers_within-requires-in-Full-2 t c =
    let place = item_place c.args.prepared.now c.requires.whole c.args.number c.args.block.now c.requires.there c.args.item.now c.requires.held c.in-Full.right (right_named c.args.item.now c.in-Full.left c.in-Full.right _ c.in-Full.is) in
    let further = place.0 in
    (search (rules, further), (c.requires.whole, place.1))

pub sublink_within-refers_within-requires : goal.sublink_within-refers_within-requires
sublink_within-refers_within-requires t c =
    let prepared = c.args.prepared.now in
    let own = to_in c.args.sub (map sublink_number (sublinks_of c.args.block.now)) c.requires.own in
    let is = c.block_of_sublink-inner.ensures ∙ ap (λ bs. block_of_sublink bs c.args.sub) c.as_slice.ensures in
    let further = subst (λ k. c.args.number < k) (sym is) (sub_further prepared c.requires.whole c.args.number c.args.block.now c.requires.there c.args.sub own) in
    let there = subst (λ k. k < length prepared.blocks) (sym is) (sub_there prepared c.requires.whole c.args.number c.args.block.now c.requires.there c.args.sub own) in
    (search (rules, further), (c.requires.whole, there))

pub refers_within-returns : goal.refers_within-returns
refers_within-returns t c h =
    let prepared = c.args.prepared.now in
    let block = c.index-as_slice-number.result in
    let there = block_is c.as_slice.result.now prepared.blocks c.args.number block c.as_slice.ensures c.requires.there c.index-as_slice-number.is in
    refers_by prepared c.requires.whole c.args.number block there c.args.set c.both-inside.result (c.both-inside.ensures.is ∙ ap (bit_or c.args.set) c.own_relations.ensures.is)
    (sym c.in_ok-named.ensures ∙ c.if-not-named.false) (c.in_ok-items.ensures c.if-not-items.false) c.as_slice-2.result.now (c.as_slice-2.ensures.value ∙ c.in_ok-numbers.ensures.numbers) (c.in_ok-all.ensures h)
