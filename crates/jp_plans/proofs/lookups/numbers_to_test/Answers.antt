use Rattle.std.proofs.Common.{sym}
use Rattle.jp_plans.proofs.lookups.numbers_to_test.Goals as goal

pub returns-in-Some : goal.returns-in-Some
returns-in-Some c = (c.clause-item.result, (c.clauses.clause-index, c.clauses-test.true, sym c.clause-item.is), c.in-Some.ensures)
