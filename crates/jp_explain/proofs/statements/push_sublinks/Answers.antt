use Rattle.std.proofs.Common.{◌∙◌, ap, sym, ◌++◌, append-nil, arith}
use Rattle.std.specs.Prelude.{string_bytes}
use Rattle.jp_explain.proofs.SublinkLaws.{sublinks_end}
use Rattle.jp_explain.proofs.statements.push_sublinks.Goals as goal

pub returns : goal.returns
returns c =
    let done = sublinks_end c.args.prepared.now c.subs.sub (omega arith) in
    sym (append-nil (string_bytes c.subs.text)) ∙ ap (λ xs. string_bytes c.subs.text ++ xs) (sym done) ∙ c.subs.invariant
