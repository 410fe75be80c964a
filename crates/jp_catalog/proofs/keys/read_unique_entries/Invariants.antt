use Rattle.std.proofs.Common.{◌≡◌, drop}
use Rattle.toml.specs.View.{items_view}
use Rattle.jp_catalog.specs.Reading.{unique_from}
use Rattle.jp_catalog.proofs.Steps.{front}
use Rattle.jp_catalog.proofs.keys.read_unique_entries.Given as goal

abbrev pub invariant-loop-i : goal.invariant-loop-i
invariant-loop-i l =
    front l.keys (unique_from l.table l.columns l.i (items_view (drop l.i l.entries))) ≡ unique_from l.table l.columns 0 (items_view l.entries)
