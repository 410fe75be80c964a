use Rattle.std.proofs.Common.{◌≡◌, drop}
use Rattle.std.specs.List.{list_all}
use Rattle.jp_folding.specs.Folding as folding
use Rattle.jp_fold.proofs.literals.are_literals.Given as goal

abbrev pub invariant-loop-expr : goal.invariant-loop-expr
invariant-loop-expr l = list_all folding.is_literal (drop l.expr-index l.exprs) ≡ list_all folding.is_literal (l.exprs)
