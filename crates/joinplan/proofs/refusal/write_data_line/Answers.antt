use Rattle.std.proofs.Common.{ap, sym}
use Rattle.joinplan.specs.Refusals.{data_line}
use Rattle.joinplan.proofs.LineLemmas.{line_is}
use Rattle.joinplan.proofs.refusal.write_data_line.Goals as goal

pub returns-in-Header-clause-line : goal.returns-in-Header-clause-line
returns-in-Header-clause-line g c = line_is _ _ _ _ _ _ (ap (data_line c.args.table.now) (sym c.in-Header.is)) c.write_data.ensures.line

pub returns-in-FieldCount-clause-line : goal.returns-in-FieldCount-clause-line
returns-in-FieldCount-clause-line g c = line_is _ _ _ _ _ _ (ap (data_line c.args.table.now) (sym c.in-FieldCount.is)) c.write_field_count.ensures.line

pub returns-in-BadNumber-clause-line : goal.returns-in-BadNumber-clause-line
returns-in-BadNumber-clause-line g c = line_is _ _ _ _ _ _ (ap (data_line c.args.table.now) (sym c.in-BadNumber.is)) c.write_field.ensures.line

pub returns-in-BadBool-clause-line : goal.returns-in-BadBool-clause-line
returns-in-BadBool-clause-line g c = line_is _ _ _ _ _ _ (ap (data_line c.args.table.now) (sym c.in-BadBool.is)) c.write_field-in-BadBool.ensures.line

pub returns-in-NotUtf8-clause-line : goal.returns-in-NotUtf8-clause-line
returns-in-NotUtf8-clause-line g c = line_is _ _ _ _ _ _ (ap (data_line c.args.table.now) (sym c.in-NotUtf8.is)) c.write_field-in-NotUtf8.ensures.line

pub returns-in-NullInKey-clause-line : goal.returns-in-NullInKey-clause-line
returns-in-NullInKey-clause-line g c = line_is _ _ _ _ _ _ (ap (data_line c.args.table.now) (sym c.in-NullInKey.is)) c.write_null_in_key.ensures.line

pub returns-in-KeyRepeated-clause-line : goal.returns-in-KeyRepeated-clause-line
returns-in-KeyRepeated-clause-line g c = line_is _ _ _ _ _ _ (ap (data_line c.args.table.now) (sym c.in-KeyRepeated.is)) c.write_repeat.ensures.line

pub returns-in-Memory-clause-line : goal.returns-in-Memory-clause-line
returns-in-Memory-clause-line g c = line_is _ _ _ _ _ _ (ap (data_line c.args.table.now) (sym c.in-Memory.is)) c.write_data-in-Memory.ensures.line
