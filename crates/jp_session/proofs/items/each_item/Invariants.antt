use Rattle.jp_session.specs.Items.{lent}
use Rattle.jp_session.proofs.ItemLaws.{Goes}
use Rattle.jp_session.proofs.items.each_item.Given as goal

abbrev pub invariant-leaves : goal.invariant-leaves
invariant-leaves l = Goes l.making.catalog.now l.making.prices.now l.making.count (lent l.leaves) l.inner l.at l.next l.items.items
