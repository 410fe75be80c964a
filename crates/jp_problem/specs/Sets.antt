-- Tests on sets of items, which are masks.
use Rattle.std.specs.Prelude.{ℕ, zero, suc, ◌==◌, Bool, true, false, not, bit_and, bit_or, bit_xor, if◌then◌else◌}
use Rattle.jp_query.specs.Refs.{only}

abbrev pub is_within : ℕ → ℕ → Bool
is_within a b = bit_and a b == a

abbrev pub is_empty : ℕ → Bool
is_empty a = a == 0

-- whether the two share an item
abbrev pub meets : ℕ → ℕ → Bool
meets a b = not (is_empty (bit_and a b))

-- the set, or another one where it is empty
abbrev pub or_if_empty : ℕ → ℕ → ℕ
or_if_empty set other = if is_empty set then other else set

-- the items of a that b lacks
abbrev pub without : ℕ → ℕ → ℕ
without a b = bit_xor a (bit_and a b)

-- the set where the test holds, else the empty one
abbrev pub set_if : Bool → ℕ → ℕ
set_if true set = set
set_if false set = 0

-- the numbers from `first` on, so many
abbrev pub span : ℕ → ℕ → ℕ
span first zero = 0
span first (suc n) = bit_or (only first) (span (suc first) n)
