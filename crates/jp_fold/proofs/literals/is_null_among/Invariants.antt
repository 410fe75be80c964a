use Rattle.std.proofs.Common.{◌≡◌, drop}
use Rattle.std.specs.List.{list_any}
use Rattle.jp_folding.specs.Folding as folding
use Rattle.jp_fold.proofs.literals.is_null_among.Given as goal

abbrev pub invariant-loop-expr : goal.invariant-loop-expr
invariant-loop-expr l = list_any folding.is_null (drop l.expr-index l.exprs) ≡ list_any folding.is_null (l.exprs)
