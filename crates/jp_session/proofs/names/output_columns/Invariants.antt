use Rattle.std.proofs.Common.{◌≡◌, map, take}
use Rattle.jp_prepared.specs.Names.{output_name}
use Rattle.jp_session.proofs.names.output_columns.Given as goal

abbrev pub invariant-outputs : goal.invariant-outputs
invariant-outputs l = l.names ≡ map output_name (take l.output-index l.outputs)
