use Rattle.std.proofs.Common.{◌≡◌, None, map, set, take}
use Rattle.jp_frame.specs.Methods.{none_row, one_row}
use Rattle.jp_joins.specs.Tuples.{maps_of}
use Rattle.jp_plans.proofs.scans.listed_tuples.Given as goal

abbrev pub invariant-numbers : goal.invariant-numbers
invariant-numbers l = record {
  empty : set l.places.items l.item None ≡ none_row l.items;
  list : maps_of l.tuples.items ≡ map (one_row l.items l.item) (take l.number-index l.numbers);
}
