use Rattle.std.proofs.Common.{◌≡◌, ◌∙◌, ap, not, map, take}
use Rattle.std.specs.List.{list_any}
use Rattle.jp_query.specs.Ordering.{Row, same_rows}
use Rattle.jp_order.specs.Keys.{value_of_part}
use Rattle.jp_order.proofs.FirstFacts.{mark_more, part_more}
use Rattle.jp_order.proofs.PartFacts.{same_values}
use Rattle.jp_order.proofs.distinct.new_rows.Goals as goal

pub rows-preserved : goal.rows-preserved
rows-preserved c =
    let row = c.row-item.result in
    let values : map value_of_part c.in_ok-parts.parts.items ≡ row = c.in_ok-parts.ensures ∙ c.as_slice.ensures in
    record {
      marks = mark_more c.args.rows.now c.rows.row-index row c.row-item.is c.rows-test.true c.rows.marks.items c.push.new.self.items c.in-Ok.new
          c.rows.invariant.marks c.in-Ok-push.ensures.items
          (c.in-Ok.ensures.added ∙ ap not (c.rows.invariant.seen c.in_ok-parts.parts ∙ ap (λ (r : Row). list_any (same_rows r) (take c.rows.row-index c.args.rows.now)) values));
      seen = λ q. c.in-Ok.ensures.updates.0 q
          ∙ part_more c.args.rows.now c.rows.row-index row c.row-item.is c.rows-test.true (map value_of_part q.items) _ _
          (same_values c.in_ok-parts.parts.items q.items ∙ ap (λ (r : Row). same_rows r (map value_of_part q.items)) values) (c.rows.invariant.seen q);
    }
