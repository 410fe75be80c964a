use Rattle.std.proofs.Common.{◌≡◌, map}
use Rattle.std.specs.List.{range_with_len}
use Rattle.jp_items.specs.Seeing.{place_of}
use Rattle.jp_items.proofs.layout.all_places.Given as goal

abbrev pub invariant-rels : goal.invariant-rels
invariant-rels l = l.places.items ≡ map (place_of l.rels) (range_with_len 0 l.rel)
