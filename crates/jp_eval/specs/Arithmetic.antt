-- Arithmetic in 128 bits. A number that they don't hold is none, as if it were NULL; no bounded expression has one.
use Rattle.std.specs.Prelude.{◌^◌, ◌==◌, nat_lt, Bool, ℤ, pos, negsuc, nat_abs, ◌+ℤ◌, ◌*ℤ◌, neg_ℤ, List, map, fold, if◌then◌else◌}
use Rattle.jp_base.specs.declared.values.Value.{Value}
use Rattle.jp_base.specs.declared.values.Value.TheVariants as value
use Rattle.jp_eval.specs.declared.arithmetic.Multiplied.{Multiplied}
use Rattle.jp_eval.specs.declared.arithmetic.Multiplied.TheVariants as multiplied

abbrev pub fits_in_128 : ℤ → Bool
fits_in_128 (pos n) = nat_lt n (2 ^ 127)
fits_in_128 (negsuc n) = nat_lt n (2 ^ 127)

abbrev pub number_in_128 : ℤ → Value
number_in_128 n = if fits_in_128 n then value.Num n else value.Null

abbrev pub negated_in_128 : Value → Value
negated_in_128 (value.Num a) = number_in_128 (neg_ℤ a)
negated_in_128 _ = value.Null

abbrev pub plus_in_128 : Value → Value → Value
plus_in_128 (value.Num a) (value.Num b) = number_in_128 (a +ℤ b)
plus_in_128 _ _ = value.Null

-- a term of a sum, with whether it is subtracted
abbrev pub signed_in_128 : Bool × Value → Value
signed_in_128 term = if term.0 then negated_in_128 term.1 else term.1

-- the sum of terms that are subtracted by their signs
abbrev pub terms_sum : List Value → Value
terms_sum = fold plus_in_128 (value.Num (pos 0))

abbrev pub sum_in_128 : List (Bool × Value) → Value
sum_in_128 terms = terms_sum (map signed_in_128 terms)

-- Products: a factor 0 makes the product 0, also where the factors before it passed 128 bits.
abbrev pub is_zero : ℤ → Bool
is_zero n = nat_abs n == 0

abbrev pub product_or_beyond : ℤ → Multiplied
product_or_beyond n = if fits_in_128 n then multiplied.Number n else multiplied.Beyond

abbrev pub times_nonzero : Multiplied → ℤ → Multiplied
times_nonzero multiplied.Null n = multiplied.Null
times_nonzero (multiplied.Number a) n = product_or_beyond (a *ℤ n)
times_nonzero multiplied.Beyond n = multiplied.Beyond

abbrev pub times_number : Multiplied → ℤ → Multiplied
times_number multiplied.Null n = multiplied.Null
times_number product n = if is_zero n then multiplied.Number (pos 0) else times_nonzero product n

abbrev pub times_in_128 : Multiplied → Value → Multiplied
times_in_128 product (value.Num n) = times_number product n
times_in_128 product _ = multiplied.Null

abbrev pub value_of_product : Multiplied → Value
value_of_product (multiplied.Number n) = value.Num n
value_of_product _ = value.Null

abbrev pub product_in_128 : List Value → Multiplied
product_in_128 = fold times_in_128 (multiplied.Number (pos 1))
