use Rattle.std.proofs.Common.{◌≡◌, [], drop}
use Rattle.toml.specs.View.{items_view}
use Rattle.jp_catalog.specs.Paths.{path_of}
use Rattle.jp_catalog.specs.Reading.{places_after}
use Rattle.jp_catalog.proofs.keys.read_places.Given as goal

abbrev pub invariant-loop-name : goal.invariant-loop-name
invariant-loop-name l =
    places_after (path_of l.place) l.columns l.places (items_view (drop l.name-index l.names)) ≡ places_after (path_of l.place) l.columns [] (items_view l.names)
