-- Things with names, as the list of their pairs.
use Rattle.std.specs.Prelude.{ℕ, List, Option, position}
use Rattle.std.specs.List.{IsDistinct}
use Rattle.std.specs.Map.{keys_of, lookup}
use Rattle.std.specs.Str.{bytes_eq}

module _ {X : Type 0} where
  -- the place of a name, counted from 0
  abbrev pub place_of : List ℕ → List (List ℕ × X) → Option ℕ
  place_of name pairs = position (bytes_eq name) (keys_of pairs)

  -- what the name names
  abbrev pub value_of : List ℕ → List (List ℕ × X) → Option X
  value_of name pairs = lookup (bytes_eq name) pairs

  -- no name stands twice
  abbrev pub HasDistinctNames : List (List ℕ × X) → Type 0
  HasDistinctNames pairs = IsDistinct bytes_eq (keys_of pairs)
