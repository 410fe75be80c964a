use Rattle.std.proofs.Common.{◌≡◌, ◌++◌, take}
use Rattle.std.specs.List.{flat_map}
use Rattle.jp_session.specs.Parts.{output_parts}
use Rattle.jp_session.proofs.sources.push_outputs.Given as goal

abbrev pub invariant-outputs : goal.invariant-outputs
invariant-outputs l = l.parts.items ≡ l.fn.parts.items ++ flat_map output_parts (take l.output-index l.outputs)
