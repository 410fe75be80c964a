use Rattle.std.proofs.Common.{Ok, subst}
use Rattle.joinplan.specs.Answers.{PrintsTold, output_in, query_of, resolved_in, selected_in, statement_in}
use Rattle.joinplan.proofs.ReadingLemmas.{printed_then}
use Rattle.joinplan.proofs.StatementLemmas.{told_own}
use Rattle.joinplan.proofs.answer.answer_query.Goals as goal

pub returns-clause-told : goal.returns-clause-told
returns-clause-told g c =
    let contents = g.F.Files.contents c.args.files.now in
    let catalog = c.args.catalog.now in
    let stmt = c.in_ok-stmt.stmt in
    let query = c.in_ok-query.query in
    let resolved = told_own contents (query_of catalog stmt) (Ok query) c.in_ok-query.ensures.given tt in
    let printed = subst (λ x. PrintsTold c.answer_resolved.result x (λ held. output_in held catalog query)) c.in_ok-stmt.ensures.same c.answer_resolved.ensures.told in
    printed_then contents (λ held. statement_in held c.args.statement.now) (λ held. selected_in held catalog) stmt c.answer_resolved.result c.in_ok-stmt.ensures.told
    (printed_then contents (λ held. resolved_in catalog stmt) (λ held. output_in held catalog) query c.answer_resolved.result resolved printed)
