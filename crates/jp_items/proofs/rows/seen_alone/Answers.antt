use Rattle.std.proofs.Common.{◌≡◌, ◌∙◌, sym}
use Rattle.jp_items.proofs.RowFacts.{single_elsewhere, single_hidden, single_there}
use Rattle.jp_items.proofs.rows.seen_alone.Goals as goal

pub returns-then-not-has_relation : goal.returns-then-not-has_relation
returns-then-not-has_relation c = single_hidden c.args.tables.now.list c.args.rels c.args.part.now c.args.row c.args.rel (sym c.if-not-has_relation.ensures)

pub returns-then-rel-part : goal.returns-then-rel-part
returns-then-rel-part c = single_elsewhere c.args.tables.now.list c.args.rels c.args.part.now c.args.row c.args.rel c.if-rel-part.true

pub returns : goal.returns
returns c = single_there c.args.tables.now.list c.args.rels c.args.part.now c.args.row c.args.rel _ (sym c.if-not-has_relation.ensures) c.if-rel-part.false c.row_of_source.ensures
