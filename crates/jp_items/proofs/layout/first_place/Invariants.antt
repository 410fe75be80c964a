use Rattle.std.proofs.Common.{◌≡◌, drop}
use Rattle.jp_items.specs.Seeing.{place_from, place_of}
use Rattle.jp_items.proofs.layout.first_place.Given as goal

abbrev pub invariant-rels : goal.invariant-rels
invariant-rels l = place_from l.at (drop l.at l.rels) l.rel ≡ place_of l.rels l.rel
