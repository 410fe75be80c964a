use Rattle.std.proofs.Common.{arith}
use Rattle.jp_parse.proofs.Endings.{last_end, last_fits}
use Rattle.jp_parse.proofs.whole.end.Goals as goal

pub overflow_cast-result : goal.overflow_cast-result
overflow_cast-result c =
    let item = c.in-Some.ensures.item in
    let fits = last_fits c.args.tokens.now c.in-Some.last.now item.3.0 item.1 c.requires in
    omega arith

pub overflow_add-result : goal.overflow_add-result
overflow_add-result c =
    let item = c.in-Some.ensures.item in
    let fits = last_fits c.args.tokens.now c.in-Some.last.now item.3.0 item.1 c.requires in
    omega arith

pub returns-in-Some : goal.returns-in-Some
returns-in-Some c =
    let item = c.in-Some.ensures.item in
    last_end c.args.tokens.now c.in-Some.last.now item.3.0 item.1
