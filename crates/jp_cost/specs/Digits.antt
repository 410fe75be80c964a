-- Binary digits.
use Rattle.std.specs.Prelude.{ℕ, ◌-◌}
use Rattle.std.specs.Int.{leading_zeros, w64}

-- The number of binary digits of a number below 2^64; none of 0.
abbrev pub bits : ℕ → ℕ
bits n = 64 - leading_zeros w64 n
