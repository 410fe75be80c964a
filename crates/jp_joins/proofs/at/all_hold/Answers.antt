use Rattle.std.proofs.Common.{subst, sym, ap}
use Rattle.jp_query.specs.Operators.{is_true}
use Rattle.jp_joins.specs.Conditions.{CanEvaluateAt}
use Rattle.jp_joins.specs.Tuples.{map_of}
use Rattle.jp_joins.proofs.HoldsFacts.{not_held, held, known_held, all_held}
use Rattle.jp_joins.proofs.LendingFacts.{can_lent, lent_for_one, truth_lent}
use Rattle.jp_joins.proofs.at.all_hold.Goals as goal

pub holds-requires : goal.holds-requires
holds-requires g c =
    let meant = g.E.TupleEnv.meant c.args.env.now in
    let m = map_of c.args.tuple in
    can_lent (meant.sublink_rows m) c.args.lent.now c.index-conds-place.result (meant.environment m)
    (lent_for_one (meant.sublink_rows m) c.args.lent.now c.args.conds.now c.conds.place c.index-conds-place.result c.conds-test.true c.index-conds-place.is c.requires.lent)
    (subst (CanEvaluateAt meant m) (sym c.index-conds-place.is) (c.requires.evaluable c.conds.place c.index-conds-place.result c.conds-test.true))

pub conds-preserved-then-place-known : goal.conds-preserved-then-place-known
conds-preserved-then-place-known g c = known_held (g.E.TupleEnv.meant c.args.env.now) (map_of c.args.tuple) c.args.conds.now c.conds.place c.args.known c.conds-test.true c.if-place-known.true c.requires.known c.conds.invariant

pub returns-in-False : goal.returns-in-False
returns-in-False g c =
    let meant = g.E.TupleEnv.meant c.args.env.now in
    let m = map_of c.args.tuple in
    let lent = lent_for_one (meant.sublink_rows m) c.args.lent.now c.args.conds.now c.conds.place c.index-conds-place.result c.conds-test.true c.index-conds-place.is c.requires.lent in
    not_held meant m c.args.conds.now c.conds.place c.index-conds-place.result c.in_ok-truth.truth c.conds-test.true c.index-conds-place.is
    (truth_lent (meant.sublink_rows m) c.args.lent.now c.index-conds-place.result (meant.environment m) c.in_ok-truth.truth lent c.in_ok-truth.ensures.truth)
    (ap is_true c.in-False.is) c.conds.invariant

pub returns-in-Unknown : goal.returns-in-Unknown
returns-in-Unknown g c =
    let meant = g.E.TupleEnv.meant c.args.env.now in
    let m = map_of c.args.tuple in
    let lent = lent_for_one (meant.sublink_rows m) c.args.lent.now c.args.conds.now c.conds.place c.index-conds-place.result c.conds-test.true c.index-conds-place.is c.requires.lent in
    not_held meant m c.args.conds.now c.conds.place c.index-conds-place.result c.in_ok-truth.truth c.conds-test.true c.index-conds-place.is
    (truth_lent (meant.sublink_rows m) c.args.lent.now c.index-conds-place.result (meant.environment m) c.in_ok-truth.truth lent c.in_ok-truth.ensures.truth)
    (ap is_true c.in-Unknown.is) c.conds.invariant

pub conds-preserved : goal.conds-preserved
conds-preserved g c =
    let meant = g.E.TupleEnv.meant c.args.env.now in
    let m = map_of c.args.tuple in
    let lent = lent_for_one (meant.sublink_rows m) c.args.lent.now c.args.conds.now c.conds.place c.index-conds-place.result c.conds-test.true c.index-conds-place.is c.requires.lent in
    held meant m c.args.conds.now c.conds.place c.index-conds-place.result c.in_ok-truth.truth c.conds-test.true c.index-conds-place.is
    (truth_lent (meant.sublink_rows m) c.args.lent.now c.index-conds-place.result (meant.environment m) c.in_ok-truth.truth lent c.in_ok-truth.ensures.truth)
    (ap is_true c.in-True.is) c.conds.invariant

pub returns : goal.returns
returns g c = all_held (g.E.TupleEnv.meant c.args.env.now) (map_of c.args.tuple) c.args.conds.now c.conds.place c.conds-test.false c.conds.invariant
