use Rattle.std.proofs.Common.{subst}
use Rattle.joinplan.specs.Answers.{PrintsTold, catalogue_in, plan_in}
use Rattle.joinplan.proofs.ReadingLemmas.{printed_then}
use Rattle.joinplan.proofs.answer.answer_explain.Goals as goal

pub returns-clause-told : goal.returns-clause-told
returns-clause-told g c =
    let contents = g.F.Files.contents c.args.files.now in
    let catalog = c.in_ok-catalog.catalog in
    let planned = subst (λ x. PrintsTold c.plan_statement.result x (λ held. plan_in held c.args.statement.now catalog)) c.in_ok-catalog.ensures.same c.plan_statement.ensures.told in
    printed_then contents (λ held. catalogue_in held c.args.catalogue.now) (λ held. plan_in held c.args.statement.now) catalog c.plan_statement.result c.in_ok-catalog.ensures.told planned
