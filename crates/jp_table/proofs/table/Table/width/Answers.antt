use Rattle.std.proofs.Common.{arith}
use Rattle.jp_table.proofs.StorageFacts.{width-rows}
use Rattle.jp_table.proofs.table.Table.width.Goals as goal

pub returns : goal.returns
returns c =
    rw (← c.self.view_is) (width-rows c.self.inside.columns.items c.self.inside.rows c.len.result (omega (arith, c.len.ensures, c.self.inside.columns.ok.0)))
