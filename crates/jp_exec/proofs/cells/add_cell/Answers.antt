use Rattle.jp_exec.proofs.CellFacts.{adds}
use Rattle.jp_exec.proofs.cells.add_cell.Goals as goal

pub returns : goal.returns
returns c = adds c.args.cells.now c.insert.new.self c.args.rel c.args.col c.args.value c.in_ok-insert.ensures.updates.0
