use Rattle.std.proofs.Common.{arith}
use Rattle.jp_session.proofs.PriceLaws.{plan_most}
use Rattle.jp_session.proofs.blocks.price_of_plan.Goals as goal

pub returns-clause-fits : goal.returns-clause-fits
returns-clause-fits c =
    let plan = c.requires.plan in
    let same = c.plan_cost.ensures plan.tree plan.is in
    let most = plan_most c.args.problem.now c.args.pool.now.nodes c.args.plan c.requires.searchable plan in
    omega (arith, same, most)
