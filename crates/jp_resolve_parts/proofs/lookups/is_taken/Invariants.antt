use Rattle.std.proofs.Common.{◌≡◌, drop}
use Rattle.std.specs.List.{list_any}
use Rattle.jp_resolution.specs.Names as spec
use Rattle.jp_resolve_parts.proofs.lookups.is_taken.Given as goal

abbrev pub invariant-entries : goal.invariant-entries
invariant-entries l = list_any (spec.is_entry l.name) (drop l.entry-index l.entries) ≡ list_any (spec.is_entry l.name) l.entries
