use Rattle.std.proofs.Common.{◌≡◌, ◌++◌, length, reverse}
use Rattle.jp_fold.proofs.connectives.turned.Given as goal

abbrev pub invariant-exprs : goal.invariant-exprs
invariant-exprs l = l.turned ++ reverse l.exprs ≡ reverse l.initial.exprs

abbrev pub decreases-exprs : goal.decreases-exprs
decreases-exprs l = length l.exprs
