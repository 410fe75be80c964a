-- Words for the laws of DISTINCT.
use Rattle.std.specs.Prelude.{◌≡◌, Bool, true, List, [], ◌∷◌}
use Rattle.jp_query.specs.Ordering.{Line, same_rows, differs}

abbrev pub IsDifferent : Line → Line → Type 0
IsDifferent a b = differs a b ≡ true

-- the earlier line has other outputs
abbrev pub IsDifferentFrom : Line → Line → Type 0
IsDifferentFrom line earlier = differs earlier line ≡ true

-- the other line has the outputs of the line
abbrev pub is_same : Line → Line → Bool
is_same line other = same_rows other.outputs line.outputs

-- the first list is the second one without some of its elements, in their order there
pub data IsSubsequence {X : Type 0} : List X → List X → Type 0 where
  none : IsSubsequence [] []
  kept : {x : X} {xs ys : List X} → IsSubsequence xs ys → IsSubsequence (x ∷ xs) (x ∷ ys)
  left_out : {y : X} {xs ys : List X} → IsSubsequence xs ys → IsSubsequence xs (y ∷ ys)
