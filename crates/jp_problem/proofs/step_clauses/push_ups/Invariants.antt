use Rattle.std.proofs.Common.{◌≡◌, ◌++◌, map}
use Rattle.jp_problem.specs.ClassWords.{ranked_at, ups_from}
use Rattle.jp_problem.specs.StepClauses.{equality}
use Rattle.jp_problem.proofs.step_clauses.push_ups.Given as goal

abbrev pub invariant-members : goal.invariant-members
invariant-members l = l.list ++ map (equality (ranked_at l.members l.first)) (ups_from l.stage l.members l.i) ≡ l.initial.list ++ map (equality (ranked_at l.members l.first)) (ups_from l.stage l.members l.from)
