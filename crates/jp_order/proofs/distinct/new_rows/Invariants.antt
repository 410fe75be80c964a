use Rattle.std.proofs.Common.{◌≡◌, ◌++◌, Global, Vec, [], drop, map, take}
use Rattle.std.specs.HashSet.{contains}
use Rattle.std.specs.List.{list_any}
use Rattle.jp_query.specs.Ordering.{same_rows}
use Rattle.jp_order.specs.Keys.{value_of_part}
use Rattle.jp_order.specs.Lines.{news_after}
use Rattle.jp_order.specs.declared.distinct.Part.{Part}
use Rattle.jp_order.proofs.PartFacts.{same_parts}
use Rattle.jp_order.proofs.distinct.new_rows.Given as goal

abbrev pub invariant-rows : goal.invariant-rows
invariant-rows l = record {
  marks : l.marks.items ++ news_after (take l.row-index l.rows) (drop l.row-index l.rows) ≡ news_after [] l.rows;
  seen : (q : Vec Part Global) → contains same_parts l.seen q ≡ list_any (same_rows (map value_of_part q.items)) (take l.row-index l.rows);
}
