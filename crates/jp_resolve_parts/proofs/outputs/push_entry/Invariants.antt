use Rattle.std.proofs.Common.{◌≡◌, drop, map}
use Rattle.std.specs.List.{enumerate_from}
use Rattle.jp_resolution.specs.Names.{visible_at, entry_columns}
use Rattle.jp_resolution.specs.Resolving.{column_output}
use Rattle.jp_resolve_parts.specs.Outs.{with_outputs}
use Rattle.jp_resolve_parts.proofs.outputs.push_entry.Given as goal

abbrev pub invariant-columns : goal.invariant-columns
invariant-columns l = record {
  place : l.place ≡ l.column-index;
  outputs : with_outputs l.outputs (map column_output (map (visible_at l.relation) (enumerate_from l.column-index (drop l.column-index l.entry.columns)))) ≡ with_outputs l.fn.outputs (map column_output (entry_columns l.entry));
}
