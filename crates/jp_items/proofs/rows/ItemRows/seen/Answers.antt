use Rattle.std.proofs.Common.{◌∙◌, ap, List, Some}
use Rattle.jp_framed.specs.Environments.{row_at}
use Rattle.jp_items.specs.Rows.{joined_rows}
use Rattle.jp_items.specs.declared.rows.RelRows.{RelRows}
use Rattle.jp_items.proofs.RowFacts.{seen_joined, seen_single}
use Rattle.jp_items.proofs.rows.ItemRows.seen.Goals as goal

pub returns-in-Single : goal.returns-in-Single
returns-in-Single c = seen_single c.args.tables.now.list c.args.self.now c.in-Single.rels c.in-Single.part c.args.row c.args.rel _ c.in-Single.is c.seen_alone.ensures

pub returns-in-Joined : goal.returns-in-Joined
returns-in-Joined c = seen_joined c.args.tables.now.list c.args.self.now c.in-Joined.rels c.in-Joined.parts c.in-Joined.numbers c.args.row c.args.rel _ c.in-Joined.is
    (c.seen_joined.ensures ∙ ap (λ (parts : List RelRows). row_at (joined_rows c.args.tables.now.list c.in-Joined.rels parts c.in-Joined.numbers.list) (Some c.args.row) c.args.rel) c.as_slice.ensures.value)
