use Rattle.std.proofs.Common.{Ok}
use Rattle.joinplan.specs.Answers.{PlanOf, planned_in, query_of, resolved_in, statement_in}
use Rattle.joinplan.specs.Readings.{known}
use Rattle.joinplan.proofs.ReadingLemmas.{printed_output, printed_then}
use Rattle.joinplan.proofs.StatementLemmas.{told_own}
use Rattle.joinplan.proofs.answer.plan_statement.Goals as goal

pub returns-clause-told : goal.returns-clause-told
returns-clause-told g c =
    let contents = g.F.Files.contents c.args.files.now in
    let catalog = c.args.catalog.now in
    let stmt = c.in_ok-stmt.stmt in
    let query = c.in_ok-query.query in
    let bytes = c.in_ok-bytes.bytes in
    let resolved = told_own contents (query_of catalog stmt) (Ok query) c.in_ok-query.ensures.given tt in
    printed_then contents (λ held. statement_in held c.args.statement.now) (λ held. planned_in catalog) stmt (Ok bytes) c.in_ok-stmt.ensures.told
    (printed_then contents (λ held. resolved_in catalog stmt) (λ held q. known (Ok (PlanOf catalog q))) query (Ok bytes) resolved (printed_output contents (PlanOf catalog query) bytes c.in_ok-bytes.ensures))
