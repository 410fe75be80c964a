use Rattle.std.proofs.Common.{◌≡◌, [], ◌++◌, map, take}
use Rattle.csv.specs.Records.{fields_of, partial_of}
use Rattle.jp_session.specs.Output.{name_of}
use Rattle.jp_session.proofs.output.push_names.Given as goal

abbrev pub invariant-loop-column : goal.invariant-loop-column
invariant-loop-column l = record {
  whole : partial_of l.fields ≡ [];
  pushed : fields_of l.fields ≡ fields_of l.fn.fields ++ map name_of (take l.column-index l.columns);
}
