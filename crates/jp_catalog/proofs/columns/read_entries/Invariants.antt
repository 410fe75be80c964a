use Rattle.std.proofs.Common.{◌≡◌, [], length, drop}
use Rattle.toml.specs.View.{items_view}
use Rattle.jp_catalog.specs.Reading.{columns_after}
use Rattle.jp_catalog.proofs.columns.read_entries.Given as goal

abbrev pub invariant-loop-entry : goal.invariant-loop-entry
invariant-loop-entry l = record { reads : columns_after l.table l.columns.entries (items_view (drop l.entry-index l.entries)) ≡ columns_after l.table [] (items_view l.entries); one_each : length l.columns.entries ≡ l.entry-index }
