use Rattle.std.proofs.Common.{◌≡◌, take}
use Rattle.jp_problem.specs.LegalTests.{hanging}
use Rattle.jp_problem.proofs.joinable.hanging.Given as goal

abbrev pub invariant-joins : goal.invariant-joins
invariant-joins l = l.items ≡ hanging (take l.u-index l.joins) l.set l.s
