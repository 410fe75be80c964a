-- How the texts of a column stand in one buffer.
use Rattle.std.specs.Prelude.{◌≤◌, ℕ, List, Option, Some, None}
use Rattle.std.specs.List.{slice_range}
use Rattle.std.specs.Str.{IsCharBoundary}
use Rattle.jp_base.specs.declared.values.Value.{Value}
use Rattle.jp_base.specs.declared.values.Value.TheVariants as value

-- the text between two places, or nothing for NULL
abbrev pub text_at : List ℕ → Option (ℕ × ℕ) → Value
text_at bytes (Some place) = value.Text (slice_range bytes place.0 place.1)
text_at bytes None = value.Null

-- a text begins and ends between two characters
abbrev pub IsPlace : List ℕ → Option (ℕ × ℕ) → Type 0
IsPlace bytes (Some place) = (place.0 ≤ place.1) × IsCharBoundary bytes place.0 × IsCharBoundary bytes place.1
IsPlace bytes None = Unit {0}
