use Rattle.std.proofs.Common.{map, subst, sym}
use Rattle.std.specs.Prelude.{string_bytes}
use Rattle.jp_io.specs.Sinks.{TookMore}
use Rattle.joinplan.specs.declared.refusal.Refusal.TheVariants as refusal
use Rattle.joinplan.specs.Headline.{IsAnswerTo, IsListedAnswer, IsOrderedAnswer}
use Rattle.joinplan.specs.Outcomes.{IsOutput, answer_told}
use Rattle.joinplan.specs.Words.{command_of}
use Rattle.joinplan.proofs.HeadlineLemmas.{prints_such, words_answer, words_listed, words_ordered}
use Rattle.joinplan.proofs.OutcomeLemmas.{counted, no_write, output_told, refusal_told, said, write_cause, wrote_part}
use Rattle.joinplan.proofs.SureLemmas.{refused_complete, refused_surely}
use Rattle.joinplan.proofs.top.joinplan.Goals as goal

pub returns-in-Ok-clause-prefix : goal.returns-in-Ok-clause-prefix
returns-in-Ok-clause-prefix g c = λ _.
    let words = map string_bytes c.args.words.now in
    let contents = g.F.Files.contents c.args.files.now in
    let output = subst (IsOutput (answer_told words contents)) (sym c.as_slice.ensures.value) (output_told words contents c.in-Ok.bytes c.in-Ok.ensures.told) in
    wrote_part (answer_told words contents) (g.O.Sink.taken c.args.out.now) (g.O.Sink.taken c.write_all.new.sink) c.as_slice.result.now c.in-Err-Failed.field-0 output c.in-Err-Failed.ensures.part

pub returns-in-Ok-clause-line : goal.returns-in-Ok-clause-line
returns-in-Ok-clause-line g c = λ _.
    let words = map string_bytes c.args.words.now in
    let contents = g.F.Files.contents c.args.files.now in
    record {
      cause = refusal.WriteFault;
      status_is = sym c.report.ensures.status;
      first = write_cause (answer_told words contents) c.in-Ok.bytes.items (output_told words contents c.in-Ok.bytes c.in-Ok.ensures.told);
      said = tt;
      counted = tt;
      line = c.report.ensures.line;
    }

pub returns-in-Ok-write_all-clause-headline : goal.returns-in-Ok-write_all-clause-headline
returns-in-Ok-write_all-clause-headline g c = λ _.
    let words = map string_bytes c.args.words.now in
    let contents = g.F.Files.contents c.args.files.now in
    prints_such IsAnswerTo (words_answer c.each_source_is_cut_as_answered.ensures.answer) words contents (g.O.Sink.taken c.args.out.now) (g.O.Sink.taken c.write_all.new.sink) c.in-Ok.bytes c.in-Ok.ensures.told (subst (λ bytes. TookMore (g.O.Sink.taken c.args.out.now) bytes (g.O.Sink.taken c.write_all.new.sink)) c.as_slice.ensures.value c.in-Ok-write_all.ensures.all)

pub returns-in-Ok-write_all-clause-order : goal.returns-in-Ok-write_all-clause-order
returns-in-Ok-write_all-clause-order g c = λ _.
    let words = map string_bytes c.args.words.now in
    let contents = g.F.Files.contents c.args.files.now in
    prints_such IsOrderedAnswer (words_ordered c.each_source_is_cut_as_answered.ensures.answer) words contents (g.O.Sink.taken c.args.out.now) (g.O.Sink.taken c.write_all.new.sink) c.in-Ok.bytes c.in-Ok.ensures.told (subst (λ bytes. TookMore (g.O.Sink.taken c.args.out.now) bytes (g.O.Sink.taken c.write_all.new.sink)) c.as_slice.ensures.value c.in-Ok-write_all.ensures.all)

pub returns-in-Ok-write_all-clause-plan : goal.returns-in-Ok-write_all-clause-plan
returns-in-Ok-write_all-clause-plan g c = λ _.
    let words = map string_bytes c.args.words.now in
    let contents = g.F.Files.contents c.args.files.now in
    prints_such IsListedAnswer (words_listed c.each_source_is_cut_as_answered.ensures.answer) words contents (g.O.Sink.taken c.args.out.now) (g.O.Sink.taken c.write_all.new.sink) c.in-Ok.bytes c.in-Ok.ensures.told (subst (λ bytes. TookMore (g.O.Sink.taken c.args.out.now) bytes (g.O.Sink.taken c.write_all.new.sink)) c.as_slice.ensures.value c.in-Ok-write_all.ensures.all)

pub returns-clause-line : goal.returns-clause-line
returns-clause-line g c = λ _.
    let words = map string_bytes c.args.words.now in
    let contents = g.F.Files.contents c.args.files.now in
    let r = c.in-Err.refusal in
    let e = c.in-Err.ensures in
    record {
      cause = r;
      status_is = sym c.report-in-Err.ensures.status;
      first = refusal_told words contents r e.told (no_write (command_of words) _ _ r e.explained e.usage);
      said = said (command_of words) _ _ r e.explained e.usage;
      counted = counted (command_of words) _ _ r e.explained e.usage;
      line = c.report-in-Err.ensures.line;
    }

pub returns-clause-complete : goal.returns-clause-complete
returns-clause-complete g c =
    let words = map string_bytes c.args.words.now in
    let contents = g.F.Files.contents c.args.files.now in
    let r = c.in-Err.refusal in
    let e = c.in-Err.ensures in
    refused_complete (g.F.Files.is_sound c.args.files.now) (g.F.Files.is_sound c.args.files.now) _ _ (g.O.Sink.room c.args.out.now) _ _ words contents r _ _ _ e.told (no_write (command_of words) _ _ r e.explained e.usage) (counted (command_of words) _ _ r e.explained e.usage) c.report-in-Err.ensures.status

pub returns-clause-surely : goal.returns-clause-surely
returns-clause-surely g c =
    let words = map string_bytes c.args.words.now in
    let contents = g.F.Files.contents c.args.files.now in
    let r = c.in-Err.refusal in
    let e = c.in-Err.ensures in
    refused_surely _ _ _ _ _ _ _ words contents r _ e.told (no_write (command_of words) _ _ r e.explained e.usage) (counted (command_of words) _ _ r e.explained e.usage) e.sound c.report-in-Err.ensures.status
