use Rattle.std.proofs.Common.{◌≡◌, drop}
use Rattle.jp_resolution.specs.Names as spec
use Rattle.jp_resolve_parts.proofs.lookups.qualified_entry.Given as goal

abbrev pub invariant-levels : goal.invariant-levels
invariant-levels l = spec.qualified_entry l.qualifier (drop l.level-index l.levels) ≡ spec.qualified_entry l.qualifier l.levels
