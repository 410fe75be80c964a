-- The records that a reader of `csv` has left, of the text that it has left.
use Rattle.std.specs.Prelude.{◌+◌, ℕ, Bool, true, false, List, [], length, Option, Some, None}
use Rattle.csv.specs.Reading.{default_config, records_from}
use Rattle.csv.specs.declared.parser.State.{State}

-- the records of the rest of a text, from a state of the reader on
abbrev pub records_left : State → Option (List ℕ) → List (List (List ℕ))
records_left state (Some text) = records_from default_config (length text + 1) state text
records_left state None = []

-- a reader that has come to its end, or to an error, has none
abbrev pub records_until : Bool → State → Option (List ℕ) → List (List (List ℕ))
records_until true state source = []
records_until false state source = records_left state source
