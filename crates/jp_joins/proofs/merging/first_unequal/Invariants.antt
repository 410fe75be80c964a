use Rattle.std.proofs.Common.{◌≡◌, ◌≤◌, ◌<◌, ℕ, true}
use Rattle.jp_base.specs.Cells.{value_of_cell}
use Rattle.jp_base.specs.Values.{are_equal}
use Rattle.jp_joins.specs.Sorting.{key_at}
use Rattle.jp_joins.specs.declared.sorting.Keyed.{Keyed}
use Rattle.jp_joins.proofs.merging.first_unequal.Given as goal

abbrev pub invariant-places : goal.invariant-places
invariant-places l = (k : ℕ) (d : Keyed) → l.from ≤ k → k < l.at → are_equal (value_of_cell l.key) (key_at l.keyed k d) ≡ true
