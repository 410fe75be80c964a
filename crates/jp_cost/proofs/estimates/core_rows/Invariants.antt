use Rattle.std.proofs.Common.{◌≡◌, ◌≤◌, drop}
use Rattle.jp_cost.specs.Estimates.{below, core_rows, rows_from}
use Rattle.jp_cost.proofs.estimates.core_rows.Given as goal

abbrev pub invariant-items : goal.invariant-items
invariant-items l = (rows_from l.problem l.set l.rows l.i (drop l.i l.problem.items) ≡ core_rows l.problem l.set) × (l.i ≤ 64 → l.upto ≡ below l.i)
