use Rattle.std.proofs.Common.{◌∙◌, ap, refl, arith, Some}
use Rattle.jp_special.proofs.SetWords.{only_is}
use Rattle.jp_session.proofs.PriceLaws.{left_plan, plan_below, priced_join, priced_scan, right_plan, scan_there, sums_fit}
use Rattle.jp_session.proofs.costs.+price_of.Goals as goal

pub node-requires : goal.node-requires
node-requires t c = record { there = plan_below c.args.problem.now c.args.pool.now.nodes c.args.plan c.requires.plan }

pub one-requires : goal.one-requires
one-requires t c = omega (arith, scan_there c.args.problem.now c.args.pool.now.nodes c.args.plan c.in-Scan.item (c.node.ensures.is ∙ ap Some c.in-Scan.is) c.requires.plan, c.requires.searchable.few)

pub scan_cost-requires : goal.scan_cost-requires
scan_cost-requires t c = scan_there c.args.problem.now c.args.pool.now.nodes c.args.plan c.in-Scan.item (c.node.ensures.is ∙ ap Some c.in-Scan.is) c.requires.plan

pub price_of-left-requires : goal.price_of-left-requires
price_of-left-requires t c = (
  omega (arith, c.decreases, c.in-Join.ensures.children.0),
  (c.requires.searchable, left_plan c.args.problem.now c.args.pool.now.nodes c.args.plan c.in-Join.method c.in-Join.step c.in-Join.left c.in-Join.right (c.node.ensures.is ∙ ap Some c.in-Join.is) c.requires.plan),
)

pub price_of-right-requires : goal.price_of-right-requires
price_of-right-requires t c = (
  omega (arith, c.decreases, c.in-Join.ensures.children.1),
  (c.requires.searchable, right_plan c.args.problem.now c.args.pool.now.nodes c.args.plan c.in-Join.method c.in-Join.step c.in-Join.left c.in-Join.right (c.node.ensures.is ∙ ap Some c.in-Join.is) c.requires.plan),
)

pub overflow_add-result : goal.overflow_add-result
overflow_add-result t c =
    let fits = sums_fit c.args.problem.now c.args.pool.now.nodes c.args.plan c.in-Join.method c.in-Join.step c.in-Join.left c.in-Join.right c.price_of-left.result.set c.price_of-left.result.cost c.price_of-right.result.set c.price_of-right.result.cost c.join_cost-step.result
    c.requires.searchable c.requires.plan (c.node.ensures.is ∙ ap Some c.in-Join.is) c.price_of-left.ensures c.price_of-right.ensures c.join_cost-step.ensures in
    omega (arith, fits)

pub overflow_add-result-in-Join : goal.overflow_add-result-in-Join
overflow_add-result-in-Join t c =
    let fits = sums_fit c.args.problem.now c.args.pool.now.nodes c.args.plan c.in-Join.method c.in-Join.step c.in-Join.left c.in-Join.right c.price_of-left.result.set c.price_of-left.result.cost c.price_of-right.result.set c.price_of-right.result.cost c.join_cost-step.result
    c.requires.searchable c.requires.plan (c.node.ensures.is ∙ ap Some c.in-Join.is) c.price_of-left.ensures c.price_of-right.ensures c.join_cost-step.ensures in
    omega (arith, fits)

pub returns-in-Scan : goal.returns-in-Scan
returns-in-Scan t c =
    priced_scan c.args.problem.now c.args.pool.now.nodes c.args.plan c.in-Scan.item c.one.result c.scan_cost.result (c.node.ensures.is ∙ ap Some c.in-Scan.is)
    (only_is c.in-Scan.item c.one.result c.one.ensures.members) c.scan_cost.ensures

pub returns-in-Join : goal.returns-in-Join
returns-in-Join t c =
    priced_join c.args.problem.now c.args.pool.now.nodes c.args.plan c.in-Join.method c.in-Join.step c.in-Join.left c.in-Join.right c.price_of-left.result.set c.price_of-left.result.cost c.price_of-right.result.set c.price_of-right.result.cost c.both.result _ c.join_cost-step.result
    (c.node.ensures.is ∙ ap Some c.in-Join.is) c.price_of-left.ensures c.price_of-right.ensures c.both.ensures.is c.join_cost-step.ensures refl
