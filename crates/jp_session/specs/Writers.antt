-- A writer of `csv` over bytes in memory, between two records.
use Rattle.std.specs.Prelude.{◌≡◌, ℕ, List, ◌++◌, true, false, Vec}
use Rattle.std.specs.declared.alloc.Global.{Global}
use Rattle.csv.specs.Writing.{fields_written, has_written, writer_pending, writer_under, writer_setup, default_writer, with_flexible}
use Rattle.csv.specs.declared.writer.Writer.{Writer}

-- it has written this text, with the crate's defaults and any number of fields
pub record HasWritten (writer : Writer (Vec ℕ Global)) (text : List ℕ) : Type 0 where
  pub setup : writer_setup writer ≡ with_flexible default_writer true
  pub between : fields_written writer ≡ 0
  pub clean : has_written writer ≡ false
  pub bytes : (writer_under writer).items ++ writer_pending writer ≡ text
