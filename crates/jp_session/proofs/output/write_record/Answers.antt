use Rattle.std.proofs.Common.{◌≢◌, ◌++◌, ◌∙◌, ap, ap₂}
use Rattle.csv.specs.Records.{fields_of}
use Rattle.csv.specs.Writing.{row_text, writer_setup}
use Rattle.csv.specs.declared.writer.QuoteStyle.TheVariants as style
use Rattle.jp_session.proofs.WriterLemmas.{same_row}
use Rattle.jp_session.proofs.output.write_record.Goals as goal

pub returns : goal.returns
returns c = λ text has.
    let wrote = c.in-Ok.ensures in
    let plain : (writer_setup c.args.writer.now).style ≢ style.NonNumeric = rw has.setup (λ e. cc e) in
    let fields = fields_of c.args.fields.now in
    record {
      setup = wrote.setup ∙ has.setup;
      between = wrote.ended;
      clean = wrote.clean;
      bytes = wrote.bytes has.between has.clean plain ∙ ap₂ (λ a b. a ++ b) has.bytes (ap (λ setup. row_text setup fields) has.setup ∙ same_row fields);
    }
