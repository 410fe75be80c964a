use Rattle.std.proofs.Common.{◌≡◌, ◌≤◌, ◌<◌, ℕ, true}
use Rattle.jp_base.specs.Cells.{value_of_cell}
use Rattle.jp_joins.specs.Sorting.{key_at, key_before}
use Rattle.jp_joins.specs.declared.sorting.Keyed.{Keyed}
use Rattle.jp_joins.proofs.merging.first_not_before.Given as goal

abbrev pub invariant-places : goal.invariant-places
invariant-places l = (k : ℕ) (d : Keyed) → l.from ≤ k → k < l.at → key_before (key_at l.keyed k d) (value_of_cell l.key) ≡ true
