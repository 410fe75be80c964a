-- What a field of a data file says in a column of a type.
use Rattle.std.specs.Prelude.{◌==◌, ◌&&◌, if◌then◌else◌, ◌^◌, ◌-◌, ℕ, ℤ, Bool, true, false, List, length, nat_lt, nat_le, Option, Some, None, codes}
use Rattle.std.specs.Option.{option_map}
use Rattle.std.specs.Str.{all_ascii_digits, bytes_eq, is_utf8}
use Rattle.std.specs.Str.Parse.{digits_value, signed_digits_value, starts_with_minus, without_leading_sign}
use Rattle.jp_base.specs.declared.values.Value.{Value}
use Rattle.jp_base.specs.declared.values.Value.TheVariants as value
use Rattle.jp_base.specs.declared.values.Ty.{Ty}
use Rattle.jp_base.specs.declared.values.Ty.TheVariants as ty

-- the field that stands for NULL in every column
abbrev pub null_mark : List ℕ
null_mark = codes "\\N"

-- the greatest size of a number in a column, below zero and above
abbrev pub greatest_size : Bool → ℕ
greatest_size true = 2 ^ 63
greatest_size false = 2 ^ 63 - 1

-- a sign that may be missing, and one digit or more: a whole number from -2^63 to 2^63 - 1
abbrev pub is_number : List ℕ → Bool
is_number field =
    nat_lt 0 (length (without_leading_sign field)) && all_ascii_digits (without_leading_sign field)
    && nat_le (digits_value 10 (without_leading_sign field)) (greatest_size (starts_with_minus field))

abbrev pub number_of : List ℕ → Option ℤ
number_of field = if is_number field then Some (signed_digits_value 10 field) else None

abbrev pub truth_of : List ℕ → Option Bool
truth_of field =
    if bytes_eq field (codes "t") then Some true
    else if bytes_eq field (codes "true") then Some true
    else if bytes_eq field (codes "f") then Some false
    else if bytes_eq field (codes "false") then Some false
    else None

-- an empty field is NULL, but in a text column it is the empty text
abbrev pub value_of_plain : Ty → List ℕ → Option Value
value_of_plain ty.Number field = if length field == 0 then Some value.Null else option_map value.Num (number_of field)
value_of_plain ty.Boolean field = if length field == 0 then Some value.Null else option_map value.Bool (truth_of field)
value_of_plain ty.Text field = if is_utf8 field then Some (value.Text field) else None

-- the field's value in a column of the type, or none where it says no value of the type
abbrev pub value_of_field : Ty → List ℕ → Option Value
value_of_field type field = if bytes_eq field null_mark then Some value.Null else value_of_plain type field
