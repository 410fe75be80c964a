use Rattle.std.proofs.Common.{◌∙◌, ◌++◌, ap, sym, drop, true}
use Rattle.std.proofs.lemmas.List.{drop_more}
use Rattle.jp_ast.specs.Seen.{undoubled}
use Rattle.jp_cursor.proofs.content.undoubled.Goals as goal

pub bytes-preserved-then-is_second : goal.bytes-preserved-then-is_second
bytes-preserved-then-is_second c =
    let more = drop_more c.args.text.now c.bytes.b-index 0 c.bytes-test.true in
    let was = ap (λ second. c.bytes.content.items ++ undoubled c.args.quote second (drop c.bytes.b-index c.args.text.now)) c.if-is_second.true in
    let cut = ap (λ rest. c.bytes.content.items ++ undoubled c.args.quote true rest) more in
    sym cut ∙ sym was ∙ c.bytes.invariant
