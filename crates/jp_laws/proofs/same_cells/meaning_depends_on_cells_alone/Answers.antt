use Rattle.jp_laws.proofs.CellUses.{value_of_cells, tuples_of_cells, rows_of_cells}
use Rattle.jp_laws.proofs.same_cells.meaning_depends_on_cells_alone.Goals as goal

pub returns : goal.returns
returns c = record { value = value_of_cells; tuples = tuples_of_cells; rows = rows_of_cells }
