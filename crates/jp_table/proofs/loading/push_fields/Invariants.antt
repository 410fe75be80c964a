use Rattle.csv.specs.Records.{fields_of}
use Rattle.jp_table.proofs.LoadingFacts.{Pushed}
use Rattle.jp_table.proofs.loading.push_fields.Given as goal

abbrev pub invariant-loop-i : goal.invariant-loop-i
invariant-loop-i l = Pushed l.initial.columns.items (fields_of l.fields) l.i l.columns.items
