use Rattle.std.proofs.Common.{◌∙◌}
use Rattle.jp_query.specs.Refs.{refs_of}
use Rattle.jp_cost.proofs.ItemLaws.{uses_some}
use Rattle.jp_cost.proofs.values.uses_items.Goals as goal

pub returns : goal.returns
returns c = c.meets_some.ensures ∙ rw c.refs.ensures (uses_some 0 (refs_of c.args.expr.now) c.args.items.now)
