use Rattle.std.proofs.Common.{◌≡◌, fold, take}
use Rattle.jp_cost.specs.Steps.{by_clause}
use Rattle.jp_cost.proofs.conditions.after_clauses.Given as goal

abbrev pub invariant-clauses : goal.invariant-clauses
invariant-clauses l = l.rows ≡ fold (by_clause l.problem l.set l.pick) l.initial.rows (take l.clause-index l.problem.clauses)
