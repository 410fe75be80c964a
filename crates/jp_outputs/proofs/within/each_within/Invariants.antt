use Rattle.std.proofs.Common.{◌≡◌, take}
use Rattle.std.specs.List.{list_all}
use Rattle.jp_outputs.specs.Exprs.{lent_exprs}
use Rattle.jp_outputs.specs.Within.{names_within}
use Rattle.jp_outputs.proofs.within.each_within.Given as goal

abbrev pub invariant-exprs : goal.invariant-exprs
invariant-exprs l = l.all ≡ list_all (names_within l.set) (lent_exprs (take l.expr-index l.exprs))
