use Rattle.std.proofs.Common.{◌≡◌, true, drop}
use Rattle.std.specs.List.{list_any}
use Rattle.jp_joins.specs.KeyPlaces.{is_equality}
use Rattle.jp_joins.proofs.key_places.key_place.Given as goal

abbrev pub invariant-conds : goal.invariant-conds
invariant-conds l = list_any (is_equality l.first l.second) (drop l.place l.conds) ≡ true
