use Rattle.std.proofs.Common.{◌∙◌}
use Rattle.jp_table.proofs.NumberFacts.{no_number, parses}
use Rattle.jp_table.proofs.column.parse_number.Goals as goal

pub returns-in-Ok : goal.returns-in-Ok
returns-in-Ok c =
    rw (← c.in-Ok.ensures.cases.0) (c.ok.ensures.value ∙ parses c.in-Ok.text.now c.parse.result c.parse.ensures.value.0)

pub returns-in-Err : goal.returns-in-Err
returns-in-Err c = no_number c.args.field.now c.in-Err.ensures.cases.0
