use Rattle.std.proofs.Common.{◌∙◌, ap, arith, ◌<◌, ◌+◌, ◌-◌}
use Rattle.std.specs.Prelude.{bit_or}
use Rattle.jp_special.proofs.LoopLaws.{span_further, span_ended, span_begins}
use Rattle.jp_problem.specs.Sets.{span}
use Rattle.jp_special.proofs.conditions.span.Goals as goal

pub items-init : goal.items-init
items-init c = ap (λ n. bit_or n (span c.args.first (c.args.first + c.args.count - c.args.first))) c.nothing-items.ensures ∙ span_begins c.args.first c.args.count

pub items-preserved : goal.items-preserved
items-preserved c =
    let low : c.items.i < c.args.first + c.args.count = omega arith in
    let more = span_further c.items.i (c.args.first + c.args.count) c.items.items c.one.result low c.one.ensures in
    ap (λ n. bit_or n (span (c.items.i + 1) (c.args.first + c.args.count - (c.items.i + 1)))) c.both-items.ensures.is ∙ more ∙ c.items.invariant

pub returns : goal.returns
returns c = span_ended c.items.i (c.args.first + c.args.count) c.items.items (span c.args.first c.args.count) (omega arith) c.items.invariant
