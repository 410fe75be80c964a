use Rattle.std.proofs.Common.{◌≡◌, drop}
use Rattle.std.specs.List.{find}
use Rattle.jp_resolution.specs.Names as spec
use Rattle.jp_resolve_parts.proofs.lookups.named_entry.Given as goal

abbrev pub invariant-entries : goal.invariant-entries
invariant-entries l = find (spec.is_entry l.name) (drop l.entry-index l.entries) ≡ find (spec.is_entry l.name) l.entries
