-- Where the row of a relation is seen at a map: at the place of the first item that has the relation, or around the block.
use Rattle.std.specs.Prelude.{ℕ, suc, List, [], ◌∷◌, map, Option, Some, None, slice_index_or, if◌then◌else◌}
use Rattle.std.specs.List.{range_with_len}
use Rattle.jp_query.specs.Meaning.{Env, has}
use Rattle.jp_frame.specs.Maps.{Map, at}
use Rattle.jp_framed.specs.Environments.{row_at, source_at}

-- the first item that has the relation, of items from a number on
abbrev pub place_from : ℕ → List ℕ → ℕ → Option ℕ
place_from first [] rel = None
place_from first (set ∷ more) rel = if has set rel then Some first else place_from (suc first) more rel

abbrev pub place_of : List ℕ → ℕ → Option ℕ
place_of rels rel = place_from 0 rels rel

-- the places of all relations
abbrev pub places_of : List ℕ → List (Option ℕ)
places_of rels = map (place_of rels) (range_with_len 0 64)

abbrev pub seen_at : List (List Env) → Env → Map → Option ℕ → Env
seen_at sources outer m (Some i) rel = row_at (source_at sources i) (at m i) rel
seen_at sources outer m None rel = outer rel
