-- A reader of `csv` that reads on by the crate's defaults, but with no header row.
use Rattle.std.specs.Prelude.{◌≡◌, ℕ, List, Some, false, IsSome}
use Rattle.std.specs.Borrow.{Bor}
use Rattle.csv.specs.Machine.{ends_at_end}
use Rattle.csv.specs.Reading.{Ready, default_config, reader_config, reader_state, reader_trim, source_of}
use Rattle.csv.specs.declared.reader.Reader.{Reader}
use Rattle.csv.specs.declared.reader.Trim.TheVariants as trim

-- what holds of a reader between two records
pub record IsBetween (r : Reader (Bor (List ℕ))) : Type 0 where
  pub config : reader_config r ≡ default_config
  pub trim : reader_trim r ≡ trim.None
  pub ready : Ready r
  pub known : IsSome (source_of (λ (s : Bor (List ℕ)). Some s.now) r)
  pub between : ends_at_end (reader_state r) ≡ false
