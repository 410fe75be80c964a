-- Lists of environments that are in a relation place by place.
use Rattle.std.specs.Prelude.{List, [], ◌∷◌}
use Rattle.jp_query.specs.Meaning.{Env}

-- the lists are of one length, and the environments at each place are in the relation
pub data Alike (R : Env → Env → Type 0) : List Env → List Env → Type 0 where
  none : Alike R [] []
  more : {x y : Env} {xs ys : List Env} → R x y → Alike R xs ys → Alike R (x ∷ xs) (y ∷ ys)
