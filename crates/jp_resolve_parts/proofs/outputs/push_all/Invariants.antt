use Rattle.std.proofs.Common.{◌≡◌, drop, map}
use Rattle.jp_resolution.specs.Names.{columns_of}
use Rattle.jp_resolution.specs.Resolving.{column_output}
use Rattle.jp_resolve_parts.specs.Outs.{with_outputs}
use Rattle.jp_resolve_parts.proofs.outputs.push_all.Given as goal

abbrev pub invariant-entries : goal.invariant-entries
invariant-entries l = with_outputs l.outputs (map column_output (columns_of (drop l.entry-index l.entries))) ≡ with_outputs l.fn.outputs (map column_output (columns_of l.entries))
