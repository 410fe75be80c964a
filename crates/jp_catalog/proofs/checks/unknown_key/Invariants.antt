use Rattle.std.proofs.Common.{◌≡◌}
use Rattle.toml.specs.View.{members_view, table_view}
use Rattle.jp_catalog.specs.Reading.{unknown_key}
use Rattle.jp_catalog.proofs.checks.unknown_key.Given as goal

abbrev pub invariant-loop-key : goal.invariant-loop-key
invariant-loop-key l = unknown_key l.level (members_view l.key-iterator) ≡ unknown_key l.level (table_view l.table)
