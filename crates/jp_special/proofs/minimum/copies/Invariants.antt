use Rattle.std.proofs.Common.{◌≡◌, take}
use Rattle.jp_special.proofs.minimum.copies.Given as goal

abbrev pub invariant-exprs : goal.invariant-exprs
invariant-exprs l = l.list ≡ take l.e-index l.exprs
