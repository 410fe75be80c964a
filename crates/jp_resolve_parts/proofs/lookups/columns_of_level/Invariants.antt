use Rattle.std.proofs.Common.{◌≡◌, drop}
use Rattle.jp_resolution.specs.Names as spec
use Rattle.jp_resolve_parts.specs.Finds.{found_of, found_map, together}
use Rattle.jp_resolve_parts.specs.Views.{shown}
use Rattle.jp_resolve_parts.proofs.lookups.columns_of_level.Given as goal

abbrev pub invariant-entries : goal.invariant-entries
invariant-entries l = together (found_map shown l.found) (found_of (spec.called l.name (spec.columns_of (drop l.entry-index l.entries)))) ≡ found_of (spec.called l.name (spec.columns_of l.entries))
