use Rattle.std.proofs.Common.{subst, sym}
use Rattle.joinplan.specs.Answers.{PrintsTold, command_in}
use Rattle.joinplan.specs.Views.{command_view}
use Rattle.joinplan.proofs.ReadingLemmas.{told_as_output}
use Rattle.joinplan.proofs.answer.answer_command.Goals as goal

pub returns-in-Check-clause-told : goal.returns-in-Check-clause-told
returns-in-Check-clause-told g c =
    let contents = g.F.Files.contents c.args.files.now in
    subst (λ x. PrintsTold c.answer_check.result contents (command_in (command_view x))) (sym c.in-Check.is) (told_as_output contents _ c.answer_check.result c.answer_check.ensures.told)
