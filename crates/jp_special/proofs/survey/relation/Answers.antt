use Rattle.std.proofs.Common.{◌∙◌, sym}
use Rattle.jp_query.proofs.SetWords.{only_is, beyond}
use Rattle.jp_special.proofs.survey.relation.Goals as goal

pub returns-then-rel-lt64 : goal.returns-then-rel-lt64
returns-then-rel-lt64 c = only_is c.args.rel c.one.result c.if-rel-lt64.true c.one.ensures.members

pub returns-else-rel-lt64 : goal.returns-else-rel-lt64
returns-else-rel-lt64 c = c.nothing.ensures ∙ sym (beyond c.args.rel c.if-rel-lt64.false)
