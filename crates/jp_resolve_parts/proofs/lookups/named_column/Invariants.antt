use Rattle.std.proofs.Common.{◌≡◌, drop}
use Rattle.jp_resolution.specs.Names as spec
use Rattle.jp_resolve_parts.specs.Finds.{found_of}
use Rattle.jp_resolve_parts.proofs.lookups.named_column.Given as goal

abbrev pub invariant-levels : goal.invariant-levels
invariant-levels l = found_of (spec.named_column l.name (drop l.level-index l.levels)) ≡ found_of (spec.named_column l.name l.levels)
