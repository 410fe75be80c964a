-- Literals and the words of operators.
use Rattle.std.specs.Prelude.{ℕ, ◌==◌, Bool, true, false, List, [], ◌++◌, codes, if◌then◌else◌}
use Rattle.std.specs.Char.{encode_utf8}
use Rattle.std.specs.Fmt.{signed_decimal}
use Rattle.std.specs.List.{flat_map}
use Rattle.std.specs.Str.{chars}
use Rattle.jp_base.specs.declared.values.Value.{Value}
use Rattle.jp_base.specs.declared.values.Value.TheVariants as value
use Rattle.jp_query.specs.declared.CmpOp.{CmpOp}
use Rattle.jp_query.specs.declared.CmpOp.TheVariants as cmp
use Rattle.jp_query.specs.declared.IsTest.{IsTest}
use Rattle.jp_query.specs.declared.IsTest.TheVariants as is

-- a quote in a text is written twice
abbrev pub in_quotes : ℕ → List ℕ
in_quotes character = if character == 39 then codes "''" else encode_utf8 character

abbrev pub quoted : List ℕ → List ℕ
quoted text = codes "'" ++ (flat_map in_quotes (chars text) ++ codes "'")

abbrev pub truth_text : Bool → List ℕ
truth_text true = codes "TRUE"
truth_text false = codes "FALSE"

abbrev pub value_text : Value → List ℕ
value_text value.Null = codes "NULL"
value_text (value.Num number) = signed_decimal number
value_text (value.Bool truth) = truth_text truth
value_text (value.Text text) = quoted text

-- ---- operators

abbrev pub comparison : CmpOp → List ℕ
comparison cmp.Eq = codes " = "
comparison cmp.Ne = codes " <> "
comparison cmp.Lt = codes " < "
comparison cmp.Le = codes " <= "
comparison cmp.Gt = codes " > "
comparison cmp.Ge = codes " >= "

abbrev pub test_words : IsTest → List ℕ
test_words is.Null = codes " IS NULL"
test_words is.NotNull = codes " IS NOT NULL"
test_words is.True = codes " IS TRUE"
test_words is.NotTrue = codes " IS NOT TRUE"
test_words is.False = codes " IS FALSE"
test_words is.NotFalse = codes " IS NOT FALSE"
test_words is.Unknown = codes " IS UNKNOWN"
test_words is.NotUnknown = codes " IS NOT UNKNOWN"

-- what stands before a term of a sum: nothing before the first one, but its sign where it is subtracted
abbrev pub sign : Bool → Bool → List ℕ
sign true false = []
sign true true = codes "-"
sign false false = codes " + "
sign false true = codes " - "
