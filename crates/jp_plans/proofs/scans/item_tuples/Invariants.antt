use Rattle.std.proofs.Common.{◌≡◌, None, set}
use Rattle.jp_frame.specs.Methods.{none_row, rows_of_item}
use Rattle.jp_joins.specs.Tuples.{maps_of}
use Rattle.jp_plans.proofs.scans.item_tuples.Given as goal

abbrev pub invariant-rows : goal.invariant-rows
invariant-rows l = record {
  empty : set l.places.items l.item None ≡ none_row l.items;
  list : maps_of l.tuples.items ≡ rows_of_item l.items l.item 0 l.row;
}
