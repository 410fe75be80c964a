use Rattle.std.proofs.Common.{◌∙◌, ◌++◌, ap, Bor}
use Rattle.jp_query.specs.declared.Expr.{Expr}
use Rattle.jp_joins.specs.Lending.{numbers_in}
use Rattle.jp_outputs.proofs.NumberFacts.{numbers_more}
use Rattle.jp_outputs.proofs.sublinks.numbers_of_all.Goals as goal

pub exprs-preserved : goal.exprs-preserved
exprs-preserved c = numbers_more c.args.exprs.now c.exprs.expr-index c.expr-item.result c.exprs.list.items c.extend_from_slice.new.self.items c.in_ok-numbers.numbers.items c.exprs-test.true c.exprs.invariant
    (c.in_ok-extend_from_slice.ensures.items ∙ ap (λ xs. c.exprs.list.items ++ xs) c.as_slice.ensures.value)
    (c.in_ok-numbers.ensures ∙ ap (λ (e : Bor Expr). numbers_in e.now) c.expr-item.is)
