use Rattle.std.proofs.Common.{◌∙◌, sym}
use Rattle.jp_problem.proofs.KeyLaws.{over_if_some, over_if_none}
use Rattle.jp_plans.proofs.keys.is_over.Goals as goal

pub returns-then-has_some : goal.returns-then-has_some
returns-then-has_some c = c.lies_in.ensures ∙ over_if_some c.args.items.now c.args.set c.refs-rels.result c.args.expr.now c.refs-rels.ensures (sym c.has_some.ensures ∙ c.if-has_some.true)

pub returns-else-has_some : goal.returns-else-has_some
returns-else-has_some c = c.has_some.ensures ∙ over_if_none c.args.items.now c.args.set c.refs-rels.result c.args.expr.now c.refs-rels.ensures (sym c.has_some.ensures ∙ c.if-has_some.false)
