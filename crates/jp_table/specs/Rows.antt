-- What holds of each row of a table.
use Rattle.std.specs.Prelude.{◌≡◌, ◌<◌, ℕ, List, length, FitsSigned, IsUtf8}
use Rattle.std.specs.Int.{w64}
use Rattle.std.specs.List.{slice_index_or}
use Rattle.jp_base.specs.declared.values.Value.{Value}
use Rattle.jp_base.specs.declared.values.Value.TheVariants as value
use Rattle.jp_base.specs.declared.values.Ty.{Ty}
use Rattle.jp_base.specs.declared.values.Ty.TheVariants as ty

-- NULL, or a value of the column's type: a number from -2^63 to 2^63 - 1, a truth value, a text in UTF-8
abbrev pub FitsColumn : Ty → Value → Type 0
FitsColumn _ value.Null = Unit {0}
FitsColumn ty.Number (value.Num number) = FitsSigned w64 number
FitsColumn ty.Boolean (value.Bool _) = Unit {0}
FitsColumn ty.Text (value.Text text) = IsUtf8 text
FitsColumn _ _ = ⊥

-- a value for each column, which fits it
pub record IsRowOf (types : List Ty) (row : List Value) : Type 0 where
  pub width : length row ≡ length types
  pub values : (column : ℕ) → column < length types → FitsColumn (slice_index_or types column ty.Number) (slice_index_or row column value.Null)
