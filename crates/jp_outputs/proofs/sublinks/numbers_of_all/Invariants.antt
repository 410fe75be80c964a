use Rattle.std.proofs.Common.{◌≡◌, take}
use Rattle.jp_joins.specs.Lending.{numbers_in_all}
use Rattle.jp_outputs.specs.Exprs.{lent_exprs}
use Rattle.jp_outputs.proofs.sublinks.numbers_of_all.Given as goal

abbrev pub invariant-exprs : goal.invariant-exprs
invariant-exprs l = l.list.items ≡ numbers_in_all (lent_exprs (take l.expr-index l.exprs))
