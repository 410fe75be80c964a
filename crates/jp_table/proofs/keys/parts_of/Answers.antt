use Rattle.std.proofs.Common.{◌<◌, ◌∙◌, [], arith, get_or, length, sym}
use Rattle.jp_table.proofs.RowKeys.{null_there}
use Rattle.jp_table.proofs.keys.parts_of.Goals as goal

pub returns-in-None : goal.returns-in-None
returns-in-None c =
    let columns = c.as_slice-columns.result.now in
    let few : c.columns.i < length columns = omega arith in
    rw (← c.as_slice-columns.ensures) (null_there (get_or c.args.table.now c.args.row []) columns c.columns.i few (sym c.cell.ensures ∙ c.in-None.ensures))
