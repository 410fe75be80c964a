use Rattle.std.proofs.Common.{ℕ, List, ◌++◌, take}
use Rattle.std.specs.List.{flat_map}
use Rattle.jp_session.specs.Output.{record_text}
use Rattle.jp_session.specs.Writers.{HasWritten}
use Rattle.jp_session.proofs.output.write_rows.Given as goal

abbrev pub invariant-loop-row : goal.invariant-loop-row
invariant-loop-row l = (text : List ℕ) → HasWritten l.fn.writer text → HasWritten l.writer (text ++ flat_map record_text (take l.row-index l.rows))
