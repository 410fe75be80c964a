use Rattle.std.proofs.Common.{◌≡◌, take, map}
use Rattle.jp_resolution.specs.Resolving as spec
use Rattle.jp_resolve_parts.proofs.sources.table_columns.Given as goal

abbrev pub invariant-loop-place : goal.invariant-loop-place
invariant-loop-place l = l.list ≡ map spec.table_column (take l.place l.columns)
