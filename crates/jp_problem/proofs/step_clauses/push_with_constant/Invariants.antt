use Rattle.std.proofs.Common.{◌≡◌, ◌++◌, map, filter, take}
use Rattle.jp_problem.specs.ClassWords.{equal_to, needs_come_up}
use Rattle.jp_problem.proofs.step_clauses.push_with_constant.Given as goal

abbrev pub invariant-members : goal.invariant-members
invariant-members l = l.list ≡ l.initial.list ++ map (equal_to l.constant) (filter (needs_come_up l.stage) (take l.member-index l.members))
