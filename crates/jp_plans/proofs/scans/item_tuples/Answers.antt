use Rattle.std.proofs.Common.{◌≡◌, ◌∙◌, ap, arith}
use Rattle.jp_frame.specs.Methods.{one_row}
use Rattle.jp_joins.specs.Tuples.{map_of, maps_of}
use Rattle.jp_plans.proofs.RowFacts.{none_put, put_wide, put_twice, row_put, tuple_more}
use Rattle.jp_plans.proofs.scans.item_tuples.Goals as goal

pub rows-init : goal.rows-init
rows-init c = record {
  empty = none_put c.in_ok-places.places.items c.args.items c.args.item c.in_ok-places.ensures;
  list = ap maps_of c.new-tuples.ensures.items;
}

pub index_mut-requires : goal.index_mut-requires
index_mut-requires c = let wide = put_wide c.rows.places.items c.args.items c.args.item c.rows.invariant.empty in omega (arith, wide, c.rows.places.ok.0)

pub rows-preserved : goal.rows-preserved
rows-preserved c = record {
  empty = put_twice c.rows.places.items c.args.item _ _ ∙ c.rows.invariant.empty;
  list =
      let is : map_of c.in_ok-placed.field-0 ≡ one_row c.args.items c.args.item c.rows.row =
      c.in_ok-placed.ensures ∙ c.as_slice.ensures.value ∙ row_put c.rows.places.items c.args.items c.args.item c.rows.row c.requires c.rows.invariant.empty
      in
      tuple_more c.rows.tuples.items c.push.new.self.items c.in_ok-placed.field-0 c.args.items c.args.item c.rows.row c.in_ok-push.ensures.items c.rows.invariant.list is;
}
