use Rattle.std.proofs.Common.{◌≡◌, ◌++◌, drop}
use Rattle.jp_query.specs.Conjuncts.{conjuncts_of_all}
use Rattle.jp_resolve_parts.proofs.conditions.+conjuncts.Given as goal

abbrev pub invariant-push_all_conjuncts-exprs : goal.invariant-push_all_conjuncts-exprs
invariant-push_all_conjuncts-exprs l = l.conds ++ conjuncts_of_all (drop l.expr-index l.exprs) ≡ l.fn.conds ++ conjuncts_of_all l.exprs
