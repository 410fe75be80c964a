use Rattle.std.proofs.Common.{◌∙◌, sym}
use Rattle.jp_query.proofs.SetWords.{only_is, beyond}
use Rattle.jp_cost.proofs.estimates.single.Goals as goal

pub returns-then-i-lt64 : goal.returns-then-i-lt64
returns-then-i-lt64 c = only_is c.args.i c.one.result c.if-i-lt64.true c.one.ensures.members

pub returns-else-i-lt64 : goal.returns-else-i-lt64
returns-else-i-lt64 c = c.nothing.ensures ∙ sym (beyond c.args.i c.if-i-lt64.false)
