-- Outputs with more behind them.
use Rattle.std.specs.Prelude.{List, ◌++◌, map, Ok, Err}
use Rattle.jp_resolution.specs.Answers.{Answer}
use Rattle.jp_resolution.specs.Resolving.{Selected, output_of, column_of}
use Rattle.jp_resolve_parts.specs.declared.outputs.Outputs.{Outputs}

abbrev pub with_outputs : Outputs → List Selected → Outputs
with_outputs outputs more = record { list = outputs.list ++ map output_of more; columns = outputs.columns ++ map column_of more }

abbrev pub outputs_behind : Outputs → Answer (List Selected) → Answer Outputs
outputs_behind outputs (Ok more) = Ok (with_outputs outputs more)
outputs_behind outputs (Err e) = Err e

-- an answer with what it leaves elsewhere in place of a value
abbrev pub after_new : {A B : Type 0} → Answer A → B → Answer B
after_new (Ok x) new = Ok new
after_new (Err e) new = Err e
