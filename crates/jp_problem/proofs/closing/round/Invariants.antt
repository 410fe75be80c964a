use Rattle.std.proofs.Common.{◌≡◌, map, take}
use Rattle.jp_query.specs.Refs.{union}
use Rattle.jp_problem.specs.Closure.{added}
use Rattle.jp_problem.proofs.closing.round.Given as goal

abbrev pub invariant-rules : goal.invariant-rules
invariant-rules l = l.more ≡ union (map (added l.set) (take l.rule-index l.rules))
