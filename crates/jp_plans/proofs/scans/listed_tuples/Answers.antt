use Rattle.std.proofs.Common.{◌≡◌, ◌∙◌, ap, arith, get_or}
use Rattle.jp_frame.specs.Methods.{one_row}
use Rattle.jp_joins.specs.Tuples.{map_of, maps_of}
use Rattle.jp_plans.proofs.RowFacts.{none_put, number_more, put_wide, put_twice, row_put}
use Rattle.jp_plans.proofs.scans.listed_tuples.Goals as goal

pub numbers-init : goal.numbers-init
numbers-init c = record {
  empty = none_put c.in_ok-places.places.items c.args.items c.args.item c.in_ok-places.ensures;
  list = ap maps_of c.new-tuples.ensures.items;
}

pub index_mut-requires : goal.index_mut-requires
index_mut-requires c = let wide = put_wide c.numbers.places.items c.args.items c.args.item c.numbers.invariant.empty in omega (arith, wide, c.numbers.places.ok.0)

pub numbers-preserved : goal.numbers-preserved
numbers-preserved c = record {
  empty = put_twice c.numbers.places.items c.args.item _ _ ∙ c.numbers.invariant.empty;
  list =
      let is : map_of c.in_ok-placed.field-0 ≡ one_row c.args.items c.args.item (get_or c.args.numbers.now c.numbers.number-index 0) =
      c.in_ok-placed.ensures ∙ c.as_slice.ensures.value ∙ row_put c.numbers.places.items c.args.items c.args.item (get_or c.args.numbers.now c.numbers.number-index 0) c.requires c.numbers.invariant.empty
      in
      number_more c.numbers.tuples.items c.push.new.self.items c.in_ok-placed.field-0 c.args.items c.args.item c.args.numbers.now c.numbers.number-index 0 c.numbers-test.true c.in_ok-push.ensures.items c.numbers.invariant.list is;
}
