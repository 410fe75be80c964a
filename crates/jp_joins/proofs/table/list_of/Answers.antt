use Rattle.std.proofs.Common.{◌∙◌, Some, refl}
use Rattle.jp_joins.proofs.KeyFacts.{some_listed, none_listed_at}
use Rattle.jp_joins.proofs.table.list_of.Goals as goal

pub returns-in-Some : goal.returns-in-Some
returns-in-Some g c = c.listed_in.ensures ∙ some_listed c.args.table.now c.args.key.now (Some c.args.key.now) refl c.in-Some.listed.now c.in-Some.ensures.value

pub returns-in-None : goal.returns-in-None
returns-in-None g c = none_listed_at c.args.table.now c.args.key.now (Some c.args.key.now) refl c.in-None.ensures.value
