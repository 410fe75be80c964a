use Rattle.std.proofs.Common.{Vec, Global, ℕ, subst}
use Rattle.joinplan.specs.Answers.{catalogue_in, counts_in}
use Rattle.joinplan.specs.Readings.{AgreesTold}
use Rattle.joinplan.proofs.ReadingLemmas.{told_then}
use Rattle.joinplan.proofs.answer.answer_check.Goals as goal

pub returns-clause-told : goal.returns-clause-told
returns-clause-told g c =
    let contents = g.F.Files.contents c.args.files.now in
    let catalog = c.in_ok-catalog.catalog in
    let counted = subst (λ x. AgreesTold (λ (v : Vec ℕ Global). v.items) c.count_rows.result x (λ held. counts_in held catalog)) c.in_ok-catalog.ensures.same c.count_rows.ensures.told in
    told_then (λ v. v.items) contents (λ held. catalogue_in held c.args.catalogue.now) counts_in catalog c.count_rows.result c.in_ok-catalog.ensures.told counted
