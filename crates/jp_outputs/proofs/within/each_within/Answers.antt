use Rattle.std.proofs.Common.{◌∙◌, ap₂, sym, ◌&&◌}
use Rattle.jp_outputs.proofs.WithinLaws.{in_lent_more}
use Rattle.jp_outputs.proofs.within.each_within.Goals as goal

pub exprs-preserved : goal.exprs-preserved
exprs-preserved c =
    c.both-all.ensures
    ∙ ap₂ (λ a b. a && b) c.exprs.invariant c.names_within.ensures
    ∙ sym (in_lent_more c.args.set c.args.exprs.now c.exprs.expr-index c.expr-item.result c.exprs-test.true c.expr-item.is)
