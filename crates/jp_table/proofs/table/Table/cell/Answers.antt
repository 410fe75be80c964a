use Rattle.std.proofs.Common.{◌∙◌, arith}
use Rattle.jp_table.proofs.StorageFacts.{cell_is, col_there}
use Rattle.jp_table.proofs.table.Table.cell.Goals as goal

pub index-requires : goal.index-requires
index-requires c =
    let there = col_there c.args.self.now c.self.inside.columns.items c.self.inside.rows c.args.row c.args.col c.self.view_is c.requires.row_there c.requires.col_there in
    omega (arith, there.1, c.self.inside.columns.ok.0)

pub cell-requires : goal.cell-requires
cell-requires c =
    let there = col_there c.args.self.now c.self.inside.columns.items c.self.inside.rows c.args.row c.args.col c.self.view_is c.requires.row_there c.requires.col_there in
    rw c.index.ensures (omega (arith, c.self.invariant c.args.col c.index.result.now there.1, there.0))

pub returns : goal.returns
returns c =
    let there = col_there c.args.self.now c.self.inside.columns.items c.self.inside.rows c.args.row c.args.col c.self.view_is c.requires.row_there c.requires.col_there in
    c.cell.ensures ∙ cell_is c.args.self.now c.self.inside.columns.items c.self.inside.rows c.args.row c.args.col c.index.result.now c.self.view_is there.0 there.1 c.index.ensures
