use Rattle.std.proofs.Common.{Ok}
use Rattle.joinplan.specs.Answers.{RowsOf, tables_read}
use Rattle.joinplan.specs.Readings.{known}
use Rattle.joinplan.proofs.ReadingLemmas.{printed_output, printed_then, told_shown}
use Rattle.joinplan.proofs.answer.answer_resolved.Goals as goal

pub returns-clause-told : goal.returns-clause-told
returns-clause-told g c =
    let contents = g.F.Files.contents c.args.files.now in
    let catalog = c.args.catalog.now in
    let query = c.args.query.now in
    let tables = c.in_ok-tables.tables in
    let bytes = c.in_ok-bytes.bytes in
    let read = told_shown (λ t. t.list) contents (λ held. tables_read held catalog query) tables c.in_ok-tables.ensures.told in
    printed_then contents (λ held. tables_read held catalog query) (λ held list. known (Ok (RowsOf catalog query list))) tables.list (Ok bytes) read (printed_output contents (RowsOf catalog query tables.list) bytes c.in_ok-bytes.ensures)
