use Rattle.std.proofs.Common.{sym}
use Rattle.jp_table.proofs.StorageFacts.{length-rows}
use Rattle.jp_table.proofs.table.Table.rows.Goals as goal

pub returns : goal.returns
returns c = rw (← c.self.view_is) (sym (length-rows c.self.inside.columns.items c.self.inside.rows))
