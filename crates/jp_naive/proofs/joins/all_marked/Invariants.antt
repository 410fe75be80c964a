use Rattle.std.proofs.Common.{◌≡◌, true}
use Rattle.std.specs.Prelude.{replicate}
use Rattle.jp_naive.proofs.joins.all_marked.Given as goal

abbrev pub invariant-marks : goal.invariant-marks
invariant-marks l = l.list.items ≡ replicate l.counter true
