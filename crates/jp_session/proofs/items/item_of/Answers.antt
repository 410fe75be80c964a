use Rattle.std.proofs.Common.{◌∙◌, ap, get_or, sym}
use Rattle.jp_session.proofs.ItemLaws.{full_made, no_table, select_made, table_made}
use Rattle.jp_session.specs.Items.{full_of, number_of}
use Rattle.jp_session.proofs.items.item_of.Goals as goal

pub unreachable-requires : goal.unreachable-requires
unreachable-requires c =
    let none = rw c.in-None.is at c.get_index.ensures in
    no_table c.args.making.catalog.now c.args.leaf.now c.in-Base.rel c.in-Base.name c.in-Base.table c.in-Base.is c.requires.table (sym none)

pub returns-in_ok-item-in-Some : goal.returns-in_ok-item-in-Some
returns-in_ok-item-in-Some c =
    table_made c.args.making.catalog.now c.args.making.prices.now c.args.making.count c.args.rels c.args.leaf.now c.args.places.now c.in_ok-item-in-Some.item c.in-Base.rel c.in-Base.table c.in-Base.name c.in-Some.field-0-0.now c.in-Some.def.now
    c.in-Base.is (sym c.in-Some.ensures) c.in_ok-item-in-Some.ensures.rows c.in_ok-item-in-Some.ensures.is

pub returns-in-Sub : goal.returns-in-Sub
returns-in-Sub c =
    select_made c.args.making.catalog.now c.args.making.prices.now c.args.making.count c.args.rels c.args.leaf.now c.args.places.now c.select_item-item.result c.in-Sub.rel c.in-Sub.name c.in-Sub.query c.in-Sub.is c.requires.places c.requires.there c.select_item-item.ensures

pub returns-in_ok-on-in-Join : goal.returns-in_ok-on-in-Join
returns-in_ok-on-in-Join c =
    full_made c.args.making.catalog.now c.args.making.prices.now c.args.making.count c.args.rels c.args.leaf.now c.args.places.now c.full_item-item.result c.in-Join.kind c.in-Join.left c.in-Join.right c.in-Join.on c.in-Join.is c.requires.places c.requires.there
    (λ lp rp hl hr. c.full_item-item.ensures lp rp hl hr
    ∙ ap (λ on. full_of c.args.rels on (number_of c.args.making.count (get_or c.args.places.now 0 0)) (number_of c.args.making.count (get_or c.args.places.now 1 0)) lp rp) (c.in_ok-on-in-Join.ensures ∙ c.as_slice.ensures))
