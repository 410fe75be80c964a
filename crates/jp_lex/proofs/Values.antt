-- The value of digits grows with each digit.
use Rattle.std.proofs.Common.{◌≡◌, ℕ, ◌+◌, ◌-◌, ◌*◌, ◌/◌, ◌^◌, ◌<◌, ◌≤◌, false, ltb, [], ◌∷◌, length, get_or, drop, fold, sym, arith}
use Rattle.std.proofs.lemmas.Bool.{le-ltb}
use Rattle.std.proofs.lemmas.List.{at_drop_more}
use Rattle.jp_lex.specs.Cutting.{Bytes}

abbrev with_digit : ℕ → ℕ → ℕ
with_digit n b = 10 * n + (b - 48)

value_grows : (n : ℕ) (digits : Bytes) → n ≤ fold with_digit n digits
value_grows n [] = omega arith
value_grows n (b ∷ digits) = omega (arith, value_grows (10 * n + (b - 48)) digits)

-- digits whose value passes the limit on the way pass it in all
pub too_wide : (v digit i n : ℕ) (digits : Bytes) → i < length digits → digit ≡ get_or digits i 0 - 48 → (170141183460469231731687303715884105727 - digit) / 10 < v
    → fold with_digit v (drop i digits) ≡ n → false ≡ ltb n (2 ^ 127)
too_wide v digit i n digits within is over all =
    let next = at_drop_more (fold with_digit v) digits i 0 within in
    let grows = value_grows (10 * v + (get_or digits i 0 - 48)) (drop (i + 1) digits) in
    sym (le-ltb n (2 ^ 127) (omega (arith, next, grows)))
