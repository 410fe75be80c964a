use Rattle.std.proofs.Common.{◌≡◌, map, take}
use Rattle.jp_problem.specs.Problems.{clause_of}
use Rattle.jp_quals.proofs.clauses.clauses_of.Given as goal

abbrev pub invariant-placed : goal.invariant-placed
invariant-placed l = l.clauses ≡ map (clause_of l.rels l.joins) (take l.c-index l.placed)
