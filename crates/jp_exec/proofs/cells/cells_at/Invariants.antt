use Rattle.std.proofs.Common.{take}
use Rattle.std.specs.Prelude.{All}
use Rattle.jp_joins.specs.Tuples.{map_of}
use Rattle.jp_items.specs.Sights.{sight_env}
use Rattle.jp_exec.specs.Cells.{IsGivenCell}
use Rattle.jp_exec.proofs.cells.cells_at.Given as goal

abbrev pub invariant-columns : goal.invariant-columns
invariant-columns l = All (IsGivenCell (sight_env l.sight (map_of l.tuple)) l.cells) (take l.rel-index l.columns)
