use Rattle.std.specs.Prelude.{All}
use Rattle.jp_joins.specs.Conditions.{CanEvaluateAt}
use Rattle.jp_joins.specs.Lending.{IsLentFor, numbers_in}
use Rattle.jp_joins.specs.Tuples.{map_of}
use Rattle.jp_outputs.specs.Exprs.{lent_exprs}
use Rattle.jp_outputs.proofs.ValueFacts.{at_lent, lent_each, values_more}
use Rattle.jp_outputs.proofs.values.values_lent.Goals as goal

pub value_lent-requires-clause-evaluable : goal.value_lent-requires-clause-evaluable
value_lent-requires-clause-evaluable g c =
    at_lent (CanEvaluateAt (g.E.TupleEnv.meant c.args.env.now) (map_of c.args.tuple)) c.args.exprs.now c.exprs.expr-index c.expr-item.result c.exprs-test.true c.expr-item.is c.requires.evaluable

pub value_lent-requires-clause-lent : goal.value_lent-requires-clause-lent
value_lent-requires-clause-lent g c =
    let rows = (g.E.TupleEnv.meant c.args.env.now).sublink_rows (map_of c.args.tuple) in
    at_lent (λ e. All (IsLentFor rows c.args.lent.now) (numbers_in e)) c.args.exprs.now c.exprs.expr-index c.expr-item.result c.exprs-test.true c.expr-item.is
    (lent_each rows c.args.lent.now (lent_exprs c.args.exprs.now) c.requires.lent)

pub exprs-preserved : goal.exprs-preserved
exprs-preserved g c =
    values_more (g.E.TupleEnv.meant c.args.env.now) (map_of c.args.tuple) c.args.exprs.now c.exprs.expr-index c.expr-item.result c.exprs.row c.push.new.self c.in_ok-value.value
    c.exprs-test.true c.expr-item.is c.exprs.invariant c.in-Ok.ensures.ok c.in_ok-value.ensures
