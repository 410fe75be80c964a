use Rattle.std.proofs.Common.{◌≡◌, take}
use Rattle.jp_session.proofs.items.copy_list.Given as goal

abbrev pub invariant-exprs : goal.invariant-exprs
invariant-exprs l = l.copies ≡ take l.expr-index l.exprs
