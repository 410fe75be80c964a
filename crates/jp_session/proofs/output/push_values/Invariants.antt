use Rattle.std.proofs.Common.{◌≡◌, [], ◌++◌, map, take}
use Rattle.csv.specs.Records.{fields_of, partial_of}
use Rattle.jp_session.specs.Output.{field_of}
use Rattle.jp_session.proofs.output.push_values.Given as goal

abbrev pub invariant-loop-value : goal.invariant-loop-value
invariant-loop-value l = record {
  whole : partial_of l.fields ≡ [];
  pushed : fields_of l.fields ≡ fields_of l.fn.fields ++ map field_of (take l.value-index l.values);
}
