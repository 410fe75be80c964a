use Rattle.std.proofs.Common.{◌∙◌, ap, map}
use Rattle.jp_query.specs.InOrder.{direction_of}
use Rattle.jp_query.specs.Ordering.{outputs_of, sorted}
use Rattle.jp_order.specs.Lines.{line_of}
use Rattle.jp_order.proofs.SortFacts.{outputs_again}
use Rattle.jp_order.proofs.sorting.sort_rows.Goals as goal

pub returns : goal.returns
returns c =
    let keys = map direction_of c.args.order.now in
    c.in_ok-rows.ensures ∙ outputs_again c.in_ok-lines-2.lines.items
    ∙ ap (map outputs_of) (c.in_ok-lines-2.ensures ∙ ap (λ ps. sorted keys (map line_of ps)) c.in_ok-lines.ensures)
