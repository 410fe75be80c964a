use Rattle.std.proofs.Common.{◌∙◌, ap, sym, ◌&&◌}
use Rattle.jp_outputs.proofs.within.both.Goals as goal

pub returns-then-a : goal.returns-then-a
returns-then-a c = ap (λ x. x && c.args.b) (sym c.if-a.true)

pub returns-else-a : goal.returns-else-a
returns-else-a c = c.if-a.false ∙ ap (λ x. x && c.args.b) (sym c.if-a.false)
