use Rattle.jp_items.proofs.RowFacts.{count_joined, count_single}
use Rattle.jp_items.proofs.rows.ItemRows.rows.Goals as goal

pub returns-in-Single : goal.returns-in-Single
returns-in-Single c = count_single c.args.tables.now.list c.args.self.now c.in-Single.rels c.in-Single.part c.count_of.result c.in-Single.is c.count_of.ensures

pub returns-in-Joined : goal.returns-in-Joined
returns-in-Joined c = count_joined c.args.tables.now.list c.args.self.now c.in-Joined.rels c.in-Joined.parts c.in-Joined.numbers c.len.result c.in-Joined.is c.len.ensures
