use Rattle.std.specs.Prelude.{All}
use Rattle.jp_search_tests.specs.Plain.{IsTypedClause}
use Rattle.jp_search_tests.proofs.plain.equalities.Given as goal

abbrev pub invariant-links : goal.invariant-links
invariant-links l = All IsTypedClause l.clauses
