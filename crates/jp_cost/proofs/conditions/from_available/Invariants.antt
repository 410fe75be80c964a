use Rattle.std.proofs.Common.{◌≡◌, drop}
use Rattle.jp_cost.specs.Estimates.{is_available}
use Rattle.jp_cost.specs.Steps.{from_first}
use Rattle.jp_cost.proofs.conditions.from_available.Given as goal

abbrev pub invariant-members : goal.invariant-members
invariant-members l = from_first (is_available l.set) (drop l.i l.members) ≡ from_first (is_available l.set) l.members
