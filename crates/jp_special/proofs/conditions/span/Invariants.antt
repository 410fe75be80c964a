use Rattle.std.proofs.Common.{◌≡◌, ◌-◌, ◌+◌}
use Rattle.std.specs.Prelude.{bit_or}
use Rattle.jp_problem.specs.Sets.{span}
use Rattle.jp_special.proofs.conditions.span.Given as goal

abbrev pub invariant-items : goal.invariant-items
invariant-items l = bit_or l.items (span l.i (l.first + l.count - l.i)) ≡ span l.first l.count
