use Rattle.std.proofs.Common.{◌≡◌}
use Rattle.jp_frame.specs.Methods.{none_row}
use Rattle.jp_plans.proofs.scans.no_rows.Given as goal

abbrev pub invariant-items : goal.invariant-items
invariant-items l = l.places.items ≡ none_row l.counter
