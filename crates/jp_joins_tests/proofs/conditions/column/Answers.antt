use Rattle.std.proofs.Common.{◌∙◌, ap, sym}
use Rattle.jp_base.specs.declared.values.Ty.TheVariants as ty
use Rattle.jp_base.proofs.SetLemmas.{zero_empty}
use Rattle.jp_query.specs.declared.Expr.TheVariants as expr
use Rattle.jp_joins_tests.proofs.conditions.column.Goals as goal

pub returns : goal.returns
returns c = ap (λ n. expr.Col c.args.rel 0 ty.Number n) (zero_empty c.empty.result c.empty.ensures.below c.empty.ensures.members) ∙ sym (expr.rolls-Col c.args.rel 0 ty.Number 0)
