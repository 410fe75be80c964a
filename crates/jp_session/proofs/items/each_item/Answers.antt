use Rattle.std.proofs.Common.{◌≡◌, ℕ, ◌+◌, true, ap, sym, subst, length, length-drop, take, arith, List}
use Rattle.std.proofs.lemmas.List.{length-map}
use Rattle.jp_problem.specs.InnerBlocks.{blocks_of_item}
use Rattle.jp_session.specs.Items.{HasTable, IsItemOf, is_item, lent}
use Rattle.jp_session.proofs.ItemLaws.{Goes, all_at, ends, lent_at, one_more, rels_at, rest_is, room}
use Rattle.jp_session.proofs.items.each_item.Goals as goal

pub item_of-requires-clause-leaf : goal.item_of-requires-clause-leaf
item_of-requires-clause-leaf c = all_at (λ leaf. is_item leaf ≡ true) (lent c.args.leaves.now) c.leaves.at c.index-leaves-at.result.now c.requires.leaves (lent_at c.args.leaves.now c.leaves.at c.index-leaves-at.result c.leaves-test.true c.index-leaves-at.is)

pub item_of-requires-clause-table : goal.item_of-requires-clause-table
item_of-requires-clause-table c =
    all_at (HasTable c.args.making.catalog.now) (lent c.args.leaves.now) c.leaves.at c.index-leaves-at.result.now c.requires.tables (lent_at c.args.leaves.now c.leaves.at c.index-leaves-at.result c.leaves-test.true c.index-leaves-at.is)

pub item_of-requires-clause-places : goal.item_of-requires-clause-places
item_of-requires-clause-places c =
    let at = lent_at c.args.leaves.now c.leaves.at c.index-leaves-at.result c.leaves-test.true c.index-leaves-at.is in
    let fits = room c.args.making.catalog.now c.args.making.prices.now c.args.making.count (lent c.args.leaves.now) c.args.inner.now c.leaves.at c.leaves.next c.leaves.items.items c.index-leaves-at.result.now c.leaves.invariant at in
    omega (arith, fits, ap length (rest_is c.args.inner.now c.leaves.next), length-drop c.leaves.next c.args.inner.now)

pub leaves-preserved : goal.leaves-preserved
leaves-preserved c =
    let catalog = c.args.making.catalog.now in
    let prices = c.args.making.prices.now in
    let leaf = c.index-leaves-at.result.now in
    let at = lent_at c.args.leaves.now c.leaves.at c.index-leaves-at.result c.leaves-test.true c.index-leaves-at.is in
    let it = subst (λ (ps : List ℕ). IsItemOf catalog prices c.args.making.count c.index-rels-at.result leaf (take (length (blocks_of_item leaf)) ps) c.in_ok-item_of.field-0) (rest_is c.args.inner.now c.leaves.next) c.in_ok-item_of.ensures in
    subst (Goes catalog prices c.args.making.count (lent c.args.leaves.now) c.args.inner.now (c.leaves.at + 1) (c.leaves.next + c.blocks_of.result)) (sym c.in_ok-push.ensures.items)
    (one_more catalog prices c.args.making.count (lent c.args.leaves.now) c.args.inner.now c.leaves.at c.leaves.next c.blocks_of.result c.leaves.items.items leaf c.index-rels-at.result c.in_ok-item_of.field-0 c.leaves.invariant at
    (rels_at (lent c.args.leaves.now) c.args.rels.now c.leaves.at leaf c.index-rels-at.result c.requires.rels at c.index-rels-at.is) c.blocks_of.ensures it)

pub returns : goal.returns
returns c =
    ends c.args.making.catalog.now c.args.making.prices.now c.args.making.count (lent c.args.leaves.now) c.args.inner.now c.leaves.at c.leaves.next c.leaves.items.items c.leaves.invariant (omega (arith, c.leaves-test.false, length-map c.args.leaves.now (λ t. t.now)))
