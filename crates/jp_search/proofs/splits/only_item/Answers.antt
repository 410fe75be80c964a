use Rattle.std.proofs.lemmas.Bool.{both_ways}
use Rattle.jp_search.proofs.NumberLaws.{single, several}
use Rattle.jp_search.proofs.splits.only_item.Goals as goal

pub returns-then-within : goal.returns-then-within
returns-then-within c = single c.args.set c.one.result c.in_ok-item.item c.in_ok-item.ensures.least c.one.ensures.members (c.within.ensures.0 c.if-within.true)

pub returns-else-within : goal.returns-else-within
returns-else-within c = several c.args.set c.one.result c.in_ok-item.item c.in_ok-item.ensures.least c.one.ensures.members (λ w. both_ways c.within.result c.if-within.false (c.within.ensures.1 w))
