-- How many parts the sets have.
use Rattle.std.specs.Prelude.{ℕ, zero, suc, ◌+◌, ◌*◌}
use Rattle.std.specs.Int.{bit_at}

-- how many subsets a set of items below n has: each of its items doubles them
abbrev pub doubled : ℕ → ℕ → ℕ
doubled zero parts = parts
doubled (suc bit) parts = 2 * parts

unfoldable pub parts_of : ℕ → ℕ → ℕ
parts_of zero set = 1
parts_of (suc n) set = doubled (bit_at set n) (parts_of n set)

-- those of all sets below a number together
unfoldable pub parts_below : ℕ → ℕ → ℕ
parts_below n zero = 0
parts_below n (suc set) = parts_below n set + parts_of n set
