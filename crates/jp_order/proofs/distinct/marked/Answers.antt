use Rattle.std.proofs.Common.{rules}
use borrow.Author.Tests.{tests}
use Rattle.std.proofs.lemmas.Iterator.{YieldsList-from_map, YieldsList-from_slice, YieldsList-from_zip, items_from_collect}
use Rattle.std.proofs.lemmas.Iterator.Adapters.{YieldsList-from_vec}
use Rattle.std.proofs.lemmas.Iterator.Consumers.{YieldsList-at, YieldsList-from_copied, YieldsList-from_filter}
use Rattle.jp_order.specs.Lines.{chosen_row, is_chosen}
use Rattle.jp_order.proofs.distinct.marked.Goals as goal

pub returns-in-Ok : goal.returns-in-Ok
returns-in-Ok c =
    rw c.in-Ok.is at (items_from_collect c.collect-chosen.result c.collect-chosen.ensures.ran
    (YieldsList-from_map _ chosen_row
    (YieldsList-at c.map.ensures.source
    (YieldsList-from_filter _ is_chosen
    (YieldsList-at c.filter.ensures.source
    (YieldsList-from_zip (YieldsList-from_vec c.args.rows.items (cc) (search rules)) (YieldsList-from_copied (YieldsList-from_slice c.args.marks.now (cc)))))
    c.filter.ensures.closure (λ x b q k. search (rules, tests))))
    c.map.ensures.closure (λ x r q k. search rules)))
