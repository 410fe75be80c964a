use Rattle.jp_laws.proofs.CellUses.{value_of_references, rows_of_references}
use Rattle.jp_laws.proofs.same_cells.typed_meaning_depends_on_references_alone.Goals as goal

pub returns : goal.returns
returns c = record { value = value_of_references; rows = rows_of_references }
