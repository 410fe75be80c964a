-- What is printed: the record of the output names, and one record for each row, as `csv` writes records.
use Rattle.std.specs.Prelude.{ℕ, true, false, List, ◌++◌, map, codes}
use Rattle.std.specs.Fmt.{signed_decimal}
use Rattle.std.specs.List.{flat_map}
use Rattle.csv.specs.Writing.{default_writer, row_text}
use Rattle.jp_base.specs.declared.values.Value.{Value}
use Rattle.jp_base.specs.declared.values.Value.TheVariants as value
use Rattle.jp_query.specs.declared.Output.{Output, out-Output}

abbrev pub name_of : Output → List ℕ
name_of output = (out-Output output).name

-- NULL and the text `\N`, which only an expression can make, are written alike
abbrev pub field_of : Value → List ℕ
field_of value.Null = codes "\\N"
field_of (value.Num number) = signed_decimal number
field_of (value.Bool true) = codes "t"
field_of (value.Bool false) = codes "f"
field_of (value.Text text) = text

abbrev pub record_text : List Value → List ℕ
record_text row = row_text default_writer (map field_of row)

abbrev pub output_text : List Output → List (List Value) → List ℕ
output_text columns rows = row_text default_writer (map name_of columns) ++ flat_map record_text rows
