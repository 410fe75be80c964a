use Rattle.std.proofs.Common.{sym, rules}
use Rattle.jp_items.proofs.RowFacts.{joined_hidden, joined_past, joined_there}
use Rattle.jp_items.proofs.rows.seen_joined.Goals as goal

pub returns-then-not-has_relation : goal.returns-then-not-has_relation
returns-then-not-has_relation c = joined_hidden c.args.tables.now.list c.args.rels c.args.parts.now c.args.row c.args.rel c.args.numbers.now.list (sym c.if-not-has_relation.ensures)

pub returns : goal.returns
returns c = joined_there c.args.tables.now.list c.args.rels c.args.parts.now c.args.row c.args.rel c.args.numbers.now.list c.tuple.result.now _ (sym c.if-not-has_relation.ensures) c.tuple.ensures.numbers c.seen_in.ensures
