use Rattle.std.proofs.Common.{◌≡◌, drop, map}
use Rattle.std.specs.List.{enumerate_from}
use Rattle.jp_resolution.specs.Names as spec
use Rattle.jp_resolve_parts.specs.Finds.{found_of, found_map, together}
use Rattle.jp_resolve_parts.specs.Views.{shown}
use Rattle.jp_resolve_parts.proofs.lookups.columns_of_entry.Given as goal

abbrev pub invariant-columns : goal.invariant-columns
invariant-columns l = record {
  place : l.place ≡ l.column-index;
  found : together (found_map shown l.found) (found_of (spec.called l.name (map (spec.visible_at l.relation) (enumerate_from l.column-index (drop l.column-index l.entry.columns))))) ≡ found_of (spec.called l.name (spec.entry_columns l.entry));
}
