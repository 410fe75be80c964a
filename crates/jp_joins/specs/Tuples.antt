-- What a tuple is: a map from the items of a block to rows.
use Rattle.std.specs.Prelude.{List, map}
use Rattle.jp_frame.specs.Maps.{Map}
use Rattle.jp_joins.specs.declared.tuples.Tuple.{Tuple}

abbrev pub map_of : Tuple → Map
map_of tuple = tuple.rows.now

abbrev pub maps_of : List Tuple → List Map
maps_of tuples = map map_of tuples
