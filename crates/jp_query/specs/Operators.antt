-- What each operator gives, on values alone. Each rule is SQL's, but that arithmetic is over all whole numbers, which
-- is this product's own. An operand of a type that the operator doesn't take, which no typed expression has, counts as
-- NULL.
use Rattle.std.specs.Prelude.{Bool, true, false, not, ℤ, pos, ◌+ℤ◌, ◌*ℤ◌, neg_ℤ, List, [], ◌∷◌, ◌++◌, map, fold, Option, Some, None, if◌then◌else◌}
use Rattle.std.specs.declared.cmp.Ordering.{Ordering}
use Rattle.std.specs.Ordering.{is_eq, is_ne, is_lt, is_le, is_gt, is_ge}
use Rattle.jp_base.specs.declared.truth.Truth.{Truth}
use Rattle.jp_base.specs.declared.truth.Truth.TheVariants.{True, False, Unknown}
use Rattle.jp_base.specs.declared.values.Value.{Value}
use Rattle.jp_base.specs.declared.values.Value.TheVariants as value
use Rattle.jp_base.specs.Truth.{truth_of_bool, and_of, or_of}
use Rattle.jp_base.specs.Values.{order_of, is_null}
use Rattle.jp_query.specs.declared.CmpOp.{CmpOp}
use Rattle.jp_query.specs.declared.CmpOp.TheVariants as cmp
use Rattle.jp_query.specs.declared.IsTest.{IsTest}
use Rattle.jp_query.specs.declared.IsTest.TheVariants as is

-- The one map between truth values and the values of boolean expressions, both ways: unknown is NULL.
abbrev pub value_of_truth : Truth → Value
value_of_truth True = value.Bool true
value_of_truth False = value.Bool false
value_of_truth Unknown = value.Null

abbrev pub truth_of_value : Value → Truth
truth_of_value (value.Bool b) = truth_of_bool b
truth_of_value _ = Unknown

abbrev pub is_true : Truth → Bool
is_true True = true
is_true False = false
is_true Unknown = false

abbrev pub is_false : Truth → Bool
is_false True = false
is_false False = true
is_false Unknown = false

abbrev pub is_unknown : Truth → Bool
is_unknown True = false
is_unknown False = false
is_unknown Unknown = true

-- AND and OR of a list
abbrev pub all_of : List Truth → Truth
all_of = fold and_of True

abbrev pub any_of : List Truth → Truth
any_of = fold or_of False

-- whether a comparison is true of a left side that stands so to the right one
abbrev pub orders_by : CmpOp → Ordering → Bool
orders_by cmp.Eq order = is_eq order
orders_by cmp.Ne order = is_ne order
orders_by cmp.Lt order = is_lt order
orders_by cmp.Le order = is_le order
orders_by cmp.Gt order = is_gt order
orders_by cmp.Ge order = is_ge order

abbrev pub truth_of_order : CmpOp → Option Ordering → Truth
truth_of_order op (Some order) = truth_of_bool (orders_by op order)
truth_of_order op None = Unknown

-- a comparison: unknown where one side is NULL
abbrev pub compared : CmpOp → Value → Value → Truth
compared op a b = truth_of_order op (order_of a b)

-- `x BETWEEN low AND high` is `x >= low AND x <= high`
abbrev pub between : Value → Value → Value → Truth
between x low high = and_of (compared cmp.Ge x low) (compared cmp.Le x high)

-- `x IN (..)` is the OR of the equalities, also over the rows of a select: true if one is equal, else unknown if one of
-- them is NULL, or if x is NULL and there is one, else false
abbrev pub among : Value → List Value → Truth
among x values = any_of (map (compared cmp.Eq x) values)

-- IS, which is never NULL
abbrev pub passes : IsTest → Value → Bool
passes is.Null v = is_null v
passes is.NotNull v = not (is_null v)
passes is.True v = is_true (truth_of_value v)
passes is.NotTrue v = not (is_true (truth_of_value v))
passes is.False v = is_false (truth_of_value v)
passes is.NotFalse v = not (is_false (truth_of_value v))
passes is.Unknown v = is_unknown (truth_of_value v)
passes is.NotUnknown v = not (is_unknown (truth_of_value v))

-- arithmetic and `||`: NULL where an operand is
abbrev pub negated : Value → Value
negated (value.Num a) = value.Num (neg_ℤ a)
negated _ = value.Null

abbrev pub plus : Value → Value → Value
plus (value.Num a) (value.Num b) = value.Num (a +ℤ b)
plus _ _ = value.Null

abbrev pub times : Value → Value → Value
times (value.Num a) (value.Num b) = value.Num (a *ℤ b)
times _ _ = value.Null

abbrev pub joined : Value → Value → Value
joined (value.Text a) (value.Text b) = value.Text (a ++ b)
joined _ _ = value.Null

-- a term of a sum, with whether it is subtracted
abbrev pub signed : Bool × Value → Value
signed term = if term.0 then negated term.1 else term.1

abbrev pub sum_of : List (Bool × Value) → Value
sum_of terms = fold plus (value.Num (pos 0)) (map signed terms)

abbrev pub product_of : List Value → Value
product_of = fold times (value.Num (pos 1))

abbrev pub concat_of : List Value → Value
concat_of = fold joined (value.Text [])

-- COALESCE: the first value that isn't NULL
abbrev pub first_value : List Value → Value
first_value [] = value.Null
first_value (v ∷ values) = if is_null v then first_value values else v

-- an arm of CASE: with an operand it is chosen where its first value equals it, without one where its first value is true
abbrev pub is_chosen : Option Value → Value → Bool
is_chosen (Some operand) when = is_true (compared cmp.Eq operand when)
is_chosen None when = is_true (truth_of_value when)

-- CASE: the result of the first arm that is chosen, else that of ELSE, which is NULL where it is missing
abbrev pub first_arm : Option Value → List (Value × Value) → Value → Value
first_arm operand [] otherwise = otherwise
first_arm operand (arm ∷ arms) otherwise = if is_chosen operand arm.0 then arm.1 else first_arm operand arms otherwise

abbrev pub value_or_null : Option Value → Value
value_or_null (Some v) = v
value_or_null None = value.Null

abbrev pub case_of : Option Value → List (Value × Value) → Option Value → Value
case_of operand arms otherwise = first_arm operand arms (value_or_null otherwise)
