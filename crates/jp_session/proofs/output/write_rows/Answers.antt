use Rattle.std.proofs.Common.{◌++◌, ◌∙◌, ap, subst, map, ◌≡◌, take}
use Rattle.std.specs.List.{flat_map}
use Rattle.csv.specs.Records.{fields_of}
use Rattle.csv.specs.Writing.{default_writer, row_text}
use Rattle.jp_session.specs.Output.{field_of, record_text}
use Rattle.jp_session.specs.Writers.{HasWritten}
use Rattle.jp_session.proofs.WriterLemmas.{text_more, text_all}
use Rattle.jp_session.proofs.output.write_rows.Goals as goal

pub loop-row-preserved : goal.loop-row-preserved
loop-row-preserved c = λ text has.
    let rows = c.args.rows.now in
    let before = text ++ flat_map record_text (take c.loop-row.row-index rows) in
    let fields : fields_of c.push_values.new.fields ≡ map field_of c.row-item.result = rw (c.clear.ensures.fields, c.as_slice.ensures) at c.in_ok-push_values.ensures in
    let wrote = c.in_ok-write_record.ensures before (c.loop-row.invariant text has) in
    subst (HasWritten c.write_record.new.writer) (ap (λ fs. before ++ row_text default_writer fs) fields ∙ text_more record_text text rows c.loop-row.row-index c.row-item.result c.loop-row-test.true c.row-item.is) wrote

pub returns : goal.returns
returns c = λ text has. subst (HasWritten c.loop-row.writer) (text_all record_text text c.args.rows.now c.loop-row.row-index c.loop-row-test.false) (c.loop-row.invariant text has)
