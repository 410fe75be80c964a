use Rattle.std.proofs.Common.{subst}
use Rattle.joinplan.specs.Answers.{PrintsTold, catalogue_in, query_in}
use Rattle.joinplan.proofs.ReadingLemmas.{printed_then}
use Rattle.joinplan.proofs.answer.answer_run.Goals as goal

pub returns-clause-told : goal.returns-clause-told
returns-clause-told g c =
    let contents = g.F.Files.contents c.args.files.now in
    let catalog = c.in_ok-catalog.catalog in
    let answered = subst (λ x. PrintsTold c.answer_query.result x (λ held. query_in held c.args.statement.now catalog)) c.in_ok-catalog.ensures.same c.answer_query.ensures.told in
    printed_then contents (λ held. catalogue_in held c.args.catalogue.now) (λ held. query_in held c.args.statement.now) catalog c.answer_query.result c.in_ok-catalog.ensures.told answered
