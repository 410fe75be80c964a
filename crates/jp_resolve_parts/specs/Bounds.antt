-- Sums and products that stop at the end of 128 bits.
use Rattle.std.specs.Prelude.{ℕ, ◌+◌, ◌*◌, ◌-◌, ◌^◌, min}

abbrev pub end : ℕ
end = 2 ^ 128 - 1

abbrev pub plus_stopped : ℕ → ℕ → ℕ
plus_stopped a x = min (a + x) end

abbrev pub times_stopped : ℕ → ℕ → ℕ
times_stopped a x = min (a * x) end
