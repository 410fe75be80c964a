use Rattle.std.proofs.Common.{◌≤◌, ◌^◌, sym, subst, length, List, []}
use Rattle.jp_session.specs.Parts.{item_part}
use Rattle.jp_session.specs.Visits.{IsPut}
use Rattle.jp_session.specs.declared.gathering.Entry.{Entry}
use Rattle.jp_session.proofs.CountLaws.{few_entries}
use Rattle.jp_session.proofs.PreparedLaws.{is_block, is_list, listed}
use Rattle.jp_session.proofs.preparing.planned_blocks.Goals as goal

pub blocks_of-requires-clause-few : goal.blocks_of-requires-clause-few
blocks_of-requires-clause-few c =
    subst (λ (es : List Entry). length es ≤ 2 ^ 32) (sym c.as_slice.ensures.value)
    (few_entries c.args.query c.in_ok-entries.entries.items c.in_ok-entries.ensures c.requires.fresh (is_block c.args.catalog.now c.args.query c.requires.typed c.requires.bounded c.requires.no_right))

pub returns : goal.returns
returns c =
    let entries = c.as_slice.result.now in
    let made = c.in_ok-made.made in
    let put = subst (λ (es : List Entry). IsPut [] (item_part c.args.query) es) (sym c.as_slice.ensures.value) c.in_ok-entries.ensures in
    listed c.args.catalog.now c.args.query entries made.blocks.items c.in_ok-blocks.blocks made.prices.items made.pool.nodes
    (is_list c.args.catalog.now c.args.query entries c.requires.sound c.requires.typed c.requires.bounded c.requires.no_right c.requires.fresh put) c.in_ok-made.ensures.made c.in_ok-made.ensures.all c.in_ok-blocks.ensures
