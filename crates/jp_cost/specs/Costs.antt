-- What the steps of a tree cost, by the estimates of their two sides.
use Rattle.std.specs.Prelude.{ℕ, ◌+◌, ◌*◌, ◌/◌}
use Rattle.jp_problem.specs.declared.types.Method.{Method}
use Rattle.jp_problem.specs.declared.types.Method.TheVariants.{Nest, Hash, HashRight, Merge}
use Rattle.jp_cost.specs.Digits.{bits}

-- a hash table that passes the memory of 65,536 rows is built and read in as many parts
abbrev pub hashed : ℕ → ℕ → ℕ
hashed rows others = others + 4 * rows * (1 + rows / 65536)

abbrev pub cost : Method → ℕ → ℕ → ℕ
cost Nest left right = left * right
cost Hash left right = hashed right left
cost HashRight left right = hashed left right
cost Merge left right = left * bits left + right * bits right + left + right
