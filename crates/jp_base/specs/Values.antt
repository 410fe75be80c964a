-- The order of two values, and when they are the same.
use Rattle.std.specs.Prelude.{ℕ, Bool, true, false, Option, Some, None}
use Rattle.std.specs.declared.cmp.Ordering.{Ordering}
use Rattle.std.specs.Ordering.{is_eq, is_lt, nat_cmp, int_cmp, bool_cmp}
use Rattle.std.specs.Cmp.Lexicographic.{slice_cmp}
use Rattle.jp_base.specs.declared.values.Value.{Value}
use Rattle.jp_base.specs.declared.values.Value.TheVariants as value
use Rattle.jp_base.specs.declared.values.Ty.{Ty}
use Rattle.jp_base.specs.declared.values.Ty.TheVariants as ty

-- SQL: numbers by size, false below true, texts by their bytes; none where one side is NULL.
-- Two values of different types meet nowhere in a typed expression.
abbrev pub order_of : Value → Value → Option Ordering
order_of (value.Num a) (value.Num b) = Some (int_cmp a b)
order_of (value.Bool a) (value.Bool b) = Some (bool_cmp a b)
order_of (value.Text a) (value.Text b) = Some (slice_cmp nat_cmp a b)
order_of _ _ = None

-- where a value's type stands in the order of all values
abbrev pub type_rank : Value → ℕ
type_rank value.Null = 0
type_rank (value.Num _) = 1
type_rank (value.Bool _) = 2
type_rank (value.Text _) = 3

-- An order of all values: two of one type as above, two NULLs tie, and else the types decide.
abbrev pub total_order_of : Value → Value → Ordering
total_order_of (value.Num a) (value.Num b) = int_cmp a b
total_order_of (value.Bool a) (value.Bool b) = bool_cmp a b
total_order_of (value.Text a) (value.Text b) = slice_cmp nat_cmp a b
total_order_of a b = nat_cmp (type_rank a) (type_rank b)

abbrev pub is_below : Value → Value → Bool
is_below a b = is_lt (total_order_of a b)

-- the value is NULL or of the type
abbrev pub HasType : Ty → Value → Type 0
HasType _ value.Null = Unit {0}
HasType ty.Number (value.Num _) = Unit {0}
HasType ty.Boolean (value.Bool _) = Unit {0}
HasType ty.Text (value.Text _) = Unit {0}
HasType _ _ = ⊥

-- the two values are of one type, or one is NULL
abbrev pub IsComparable : Value → Value → Type 0
IsComparable value.Null _ = Unit {0}
IsComparable _ value.Null = Unit {0}
IsComparable (value.Num _) (value.Num _) = Unit {0}
IsComparable (value.Bool _) (value.Bool _) = Unit {0}
IsComparable (value.Text _) (value.Text _) = Unit {0}
IsComparable _ _ = ⊥

abbrev pub is_null : Value → Bool
is_null value.Null = true
is_null _ = false

-- `a = b` is true: both have a value, and the values are equal
abbrev pub are_equal : Value → Value → Bool
are_equal a b = in_order (order_of a b)
  where
    in_order : Option Ordering → Bool
    in_order (Some order) = is_eq order
    in_order None = false

-- SQL's "not distinct": both are NULL, or they are equal
abbrev pub are_same : Value → Value → Bool
are_same value.Null value.Null = true
are_same a b = are_equal a b
