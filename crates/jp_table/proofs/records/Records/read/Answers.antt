use Rattle.std.proofs.Common.{◌≡◌, true, false}
use Rattle.std.proofs.lemmas.Bool.{false≢true}
use Rattle.csv.specs.Records.{fields_of}
use Rattle.jp_table.proofs.RecordFacts.{read_found, read_none}
use Rattle.jp_table.proofs.records.Records.read.Goals as goal
use Rattle.jp_table.proofs.records.Records.read.Goals.{in-Ok-true, in-Ok-false, in-Err}

pub invariant_of-self : goal.invariant_of-self
invariant_of-self c = λ _.
    let b = c.self.invariant c.if-self.false in
    let read = rw c.in-Ok-true.field-0-test at (c.in-Ok-true.ensures.reads b.trim b.ready) in
    (read_found c.self.inside.reader c.read_byte_record.new.self (fields_of c.read_byte_record.new.row) b (c.in-Ok-true.ensures.ready b.trim) read).1

pub returns-clause-more : goal.returns-clause-more
returns-clause-more c =
    let b = c.self.invariant c.if-self.false in
    elim c.match-read_byte_record.branch [
      | in-Ok-true w ↦
          let read = rw w.in-Ok-true.field-0-test at (w.in-Ok-true.ensures.reads b.trim b.ready) in
          let found = read_found c.self.inside.reader c.read_byte_record.new.self (fields_of c.read_byte_record.new.row) b (w.in-Ok-true.ensures.ready b.trim) read in
          rw (w.result-is, w.self-is, ← c.self.view_is, c.if-self.false) (λ _. found.0)
      | in-Ok-false w ↦ rw w.result-is (λ e. absurd (false≢true e))
      | in-Err w ↦ rw w.result-is tt
    ]

pub returns-clause-end : goal.returns-clause-end
returns-clause-end c =
    let b = c.self.invariant c.if-self.false in
    elim c.match-read_byte_record.branch [
      | in-Ok-true w ↦ rw w.result-is (λ e. let absurd_case : true ≡ false = e in cc)
      | in-Ok-false w ↦
          let read = rw w.in-Ok-false.field-0-test at (w.in-Ok-false.ensures.reads b.trim b.ready) in
          rw (w.result-is, ← c.self.view_is, c.if-self.false) (λ _. read_none c.self.inside.reader c.read_byte_record.new.self (fields_of c.read_byte_record.new.row) b read)
      | in-Err w ↦ rw w.result-is tt
    ]
