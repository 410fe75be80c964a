-- A fact of each member of a list, one beside the other.
use Rattle.std.specs.Prelude.{List, [], ◌∷◌}

module _ {X : Type 0} where
  abbrev pub Each : (X → Type 0) → List X → Type 0
  Each P [] = Unit {0}
  Each P (x ∷ xs) = P x × Each P xs
