use Rattle.std.proofs.Common.{◌∙◌}
use Rattle.jp_induction.proofs.EachPart.{each_of}
use Rattle.jp_joins.specs.Lending.{IsLentFor, numbers_in}
use Rattle.jp_joins.specs.Tuples.{map_of}
use Rattle.jp_joins.proofs.LendingFacts.{can_lent, value_lent}
use Rattle.jp_outputs.proofs.values.value_lent.Goals as goal

pub eval-requires : goal.eval-requires
eval-requires g c =
    let meant = g.E.TupleEnv.meant c.args.env.now in
    let m = map_of c.args.tuple in
    let rows = meant.sublink_rows m in
    can_lent rows c.args.lent.now c.args.expr.now (meant.environment m) (each_of (IsLentFor rows c.args.lent.now) (numbers_in c.args.expr.now) c.requires.lent) c.requires.evaluable

pub returns : goal.returns
returns g c =
    let meant = g.E.TupleEnv.meant c.args.env.now in
    let m = map_of c.args.tuple in
    let rows = meant.sublink_rows m in
    c.in_ok-value.ensures ∙ value_lent rows c.args.lent.now c.args.expr.now (meant.environment m) (each_of (IsLentFor rows c.args.lent.now) (numbers_in c.args.expr.now) c.requires.lent)
