use Rattle.std.proofs.Common.{[], ◌∙◌, ap}
use Rattle.jp_order.proofs.FirstFacts.{rows_first}
use Rattle.jp_order.specs.Lines.{news_after}
use Rattle.jp_order.proofs.distinct.distinct_rows.Goals as goal

pub returns : goal.returns
returns c = c.in_ok-kept.ensures ∙ rows_first c.args.rows.items c.as_slice-2.result.now (c.as_slice-2.ensures.value ∙ (c.in_ok-marks.ensures ∙ ap (news_after []) c.as_slice.ensures.value))
