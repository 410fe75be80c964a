-- A list in the opposite order.
use Rattle.std.specs.Prelude.{List, [], ◌∷◌, ◌++◌}

module _ {X Y : Type 0} (f : X → Y) where
  unfoldable pub turned : List X → List Y
  turned [] = []
  turned (x ∷ xs) = turned xs ++ f x ∷ []
