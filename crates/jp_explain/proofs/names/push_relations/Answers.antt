use Rattle.std.proofs.Common.{◌∙◌, ap, sym, ◌++◌, append-nil, arith}
use Rattle.std.specs.Prelude.{string_bytes}
use Rattle.jp_explain.proofs.NameLaws.{names_end}
use Rattle.jp_explain.proofs.names.push_relations.Goals as goal

pub returns : goal.returns
returns c =
    let done = names_end c.args.names.now c.args.rels c.rels.first c.rels.rel (omega arith) in
    sym (append-nil (string_bytes c.rels.text)) ∙ ap (λ xs. string_bytes c.rels.text ++ xs) (sym done) ∙ c.rels.invariant
