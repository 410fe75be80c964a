use Rattle.std.proofs.Common.{◌∙◌, ap, sym, ◌+◌, ◌≤◌, ◌++◌, length, drop, append_assoc, append-nil, arith, []}
use Rattle.std.specs.Prelude.{string_bytes, if◌then◌else◌}
use Rattle.jp_explain.specs.Plans.{blocks_of_sublink, is_of_sublink, sublink_text}
use Rattle.jp_explain.proofs.SublinkLaws.{blocks_end, blocks_step}
use Rattle.jp_explain.proofs.statements.push_sublink.Goals as goal

pub each-preserved : goal.each-preserved
each-preserved c =
    let p = c.args.prepared.now in
    let items = c.as_slice-block-items.result.now in
    let i = c.each.number in
    let text = string_bytes c.each.text in
    let block = c.block-item.result in
    let piece = (if is_of_sublink c.args.sub block.sub then sublink_text p c.args.sub i else []) in
    let rest = blocks_of_sublink p c.args.sub (i + 1) (drop (i + 1) items) in
    ap (λ x. x ++ rest) c.in_ok-push_if_named.ensures ∙ append_assoc text piece rest
    ∙ ap (λ x. text ++ x) (sym (blocks_step p c.args.sub i items block c.each-test.true c.block-item.is)) ∙ c.each.invariant

pub returns : goal.returns
returns c =
    let items = c.as_slice-block-items.result.now in
    let past : length items ≤ c.each.number = omega arith in
    let done = blocks_end c.args.prepared.now c.args.sub c.each.number items past in
    sym (append-nil (string_bytes c.each.text)) ∙ ap (λ xs. string_bytes c.each.text ++ xs) (sym done) ∙ c.each.invariant
