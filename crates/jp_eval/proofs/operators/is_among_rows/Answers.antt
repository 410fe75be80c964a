use Rattle.std.proofs.Common.{◌∙◌, ap, rules}
use Rattle.jp_base.specs.Cells.{value_of_cell}
use Rattle.jp_query.specs.declared.CmpOp.TheVariants as cmp
use Rattle.jp_query.specs.Operators.{compared}
use Rattle.jp_eval.specs.Computed.{equality_of_row}
use Rattle.jp_eval.proofs.ComputedLaws.{any_settled}
use Rattle.jp_eval.proofs.operators.is_among_rows.Goals as goal

pub returns-then-eq : goal.returns-then-eq
returns-then-eq c =
    let operand = value_of_cell c.args.operand in
    let equality = equality_of_row operand in
    any_settled equality c.args.rows.now c.loop-row.row-index c.row-item.result c.loop-row.any c.comparison.result c.or-any.result c.loop-row-test.true c.loop-row.invariant
    (c.comparison.ensures ∙ ap (compared cmp.Eq operand) c.first_of.ensures ∙ ap equality c.row-item.is) c.or-any.ensures (search rules)
