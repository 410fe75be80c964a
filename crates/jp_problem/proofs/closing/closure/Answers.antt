use Rattle.std.proofs.Common.{sym, subst, arith, ◌<◌, ◌^◌}
use Rattle.jp_base.specs.Sets.{Within}
use Rattle.jp_problem.proofs.ClosureLaws.{round_ends, round_goes_on, round_greater, IsOnTheWay}
use Rattle.jp_problem.proofs.SetTests.{is_within_says, not_within}
use Rattle.jp_problem.proofs.closing.closure.Goals as goal

pub returns-then-is_within : goal.returns-then-is_within
returns-then-is_within c =
    round_ends c.args.rules.now c.args.seed c.rounds.set c.rounds.invariant (subst (λ more. Within more c.rounds.set) c.round-more.ensures.is ((is_within_says c.round-more.result c.rounds.set).0 (sym c.if-is_within.ensures)))

pub rounds-smaller : goal.rounds-smaller
rounds-smaller c =
    let grows : c.rounds.set < c.round-more.result = round_greater c.args.rules.now c.rounds.set c.round-more.result c.round-more.ensures.is (not_within c.round-more.result c.rounds.set (sym c.if-is_within.ensures)) in
    let below : c.round-more.result < 2 ^ 64 = c.round-more.ensures.below in
    omega (arith, grows, below)

pub rounds-preserved : goal.rounds-preserved
rounds-preserved c = subst (IsOnTheWay c.args.rules.now c.args.seed) (sym c.round-more.ensures.is) (round_goes_on c.args.rules.now c.args.seed c.rounds.set c.rounds.invariant)
