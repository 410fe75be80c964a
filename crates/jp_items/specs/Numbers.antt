-- Lists of row numbers, as contracts see them.
use Rattle.std.specs.Prelude.{ℕ, zero, suc, List, [], ◌∷◌, ◌++◌, Option, take, drop}

-- the numbers of tuples: for each leaf of their tree the number of a row, or None where the relation is absent
pub record Numbered : Type 0 where
  pub width : ℕ
  pub list : List (List (Option ℕ))

-- so many pieces of a list, each of the width
abbrev pub split : {X : Type 0} → ℕ → ℕ → List X → List (List X)
split width zero xs = []
split width (suc count) xs = take width xs ∷ split width count (drop width xs)

-- one tuple more, at the end
abbrev pub added : Numbered → List (Option ℕ) → Numbered
added numbers tuple = record { width = numbers.width; list = numbers.list ++ tuple ∷ [] }
