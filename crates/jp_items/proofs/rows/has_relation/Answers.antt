use Rattle.std.proofs.Common.{rules}
use Rattle.jp_items.proofs.SeeingFacts.{beyond}
use Rattle.jp_items.proofs.rows.has_relation.Goals as goal

pub returns-then-rel-ge64 : goal.returns-then-rel-ge64
returns-then-rel-ge64 c = beyond c.args.set c.args.rel (search rules) (search rules)
