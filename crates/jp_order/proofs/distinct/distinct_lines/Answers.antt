use Rattle.std.proofs.Common.{rules, ◌≡◌, [], List, Bool, ◌∙◌, ap, ap₂, length, sym}
use Rattle.jp_order.specs.Lines.{chosen, lines_with, news_after}
use Rattle.jp_order.proofs.FirstFacts.{lines_first, as_many}
use Rattle.jp_order.proofs.distinct.distinct_lines.Goals as goal

pub returns-clause-lines : goal.returns-clause-lines
returns-clause-lines c =
    let marks = c.as_slice-2.result.now in
    let is = c.as_slice-2.ensures.value ∙ (c.in_ok-marks.ensures ∙ ap (news_after []) c.as_slice.ensures.value) in
    let again : c.as_slice-3.result.now ≡ marks = c.as_slice-3.ensures.value ∙ sym c.as_slice-2.ensures.value in
    let size : length c.args.rows.items ≡ length c.args.keys.items = search rules in
    ap₂ lines_with c.in_ok-rows.ensures (c.in_ok-keys.ensures ∙ ap (λ (ms : List Bool). chosen ms c.args.keys.items) again)
    ∙ lines_first c.args.rows.items c.args.keys.items marks size is

pub returns-clause-whole : goal.returns-clause-whole
returns-clause-whole c =
    let marks = c.as_slice-2.result.now in
    let again : c.as_slice-3.result.now ≡ marks = c.as_slice-3.ensures.value ∙ sym c.as_slice-2.ensures.value in
    let size : length c.args.rows.items ≡ length c.args.keys.items = search rules in
    let rows : length c.in_ok-rows.rows.items ≡ length (chosen marks c.args.rows.items) = ap length c.in_ok-rows.ensures in
    let keys : length c.in_ok-keys.keys.items ≡ length (chosen marks c.args.keys.items) = ap length (c.in_ok-keys.ensures ∙ ap (λ (ms : List Bool). chosen ms c.args.keys.items) again) in
    let same : length (chosen marks c.args.rows.items) ≡ length (chosen marks c.args.keys.items) = as_many marks c.args.rows.items c.args.keys.items size in
    let both : length c.in_ok-rows.rows.items ≡ length c.in_ok-keys.keys.items = rows ∙ (same ∙ sym keys) in
    search rules
