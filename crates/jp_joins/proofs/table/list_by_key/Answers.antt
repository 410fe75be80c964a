use Rattle.jp_joins.proofs.KeyFacts.{no_key}
use Rattle.jp_joins.proofs.table.list_by_key.Goals as goal

pub returns-in-None : goal.returns-in-None
returns-in-None g c = no_key c.args.table.now c.args.key.now c.in-None.is
