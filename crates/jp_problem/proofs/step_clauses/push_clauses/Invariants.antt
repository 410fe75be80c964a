use Rattle.std.proofs.Common.{◌≡◌, ◌++◌, map, filter, take}
use Rattle.jp_problem.specs.StepClauses.{expr_of, stands_alone}
use Rattle.jp_problem.proofs.step_clauses.push_clauses.Given as goal

abbrev pub invariant-clauses : goal.invariant-clauses
invariant-clauses l = l.list ≡ l.initial.list ++ map expr_of (filter (stands_alone l.joins l.stage) (take l.clause-index l.clauses))
