use Rattle.std.proofs.Common.{◌∙◌, refl}
use Rattle.jp_session.proofs.PlanLaws.{is_planned, searched}
use Rattle.jp_session.proofs.blocks.plan_block.Goals as goal

pub best-requires : goal.best-requires
best-requires g c =
    searched c.args.making.catalog.now c.args.making.prices.now c.args.making.count c.args.entry.now c.get-query.result.now c.as_slice.result.now c.in_ok-items.items.items c.in_ok-problem.problem c.requires.can
    c.get-query.ensures c.as_slice.ensures c.in_ok-items.ensures c.in_ok-problem.ensures.is

pub price_of_plan-price-requires-clause-searchable : goal.price_of_plan-price-requires-clause-searchable
price_of_plan-price-requires-clause-searchable g c =
    searched c.args.making.catalog.now c.args.making.prices.now c.args.making.count c.args.entry.now c.get-query.result.now c.as_slice.result.now c.in_ok-items.items.items c.in_ok-problem.problem c.requires.can
    c.get-query.ensures c.as_slice.ensures c.in_ok-items.ensures c.in_ok-problem.ensures.is

pub returns-clause-is : goal.returns-clause-is
returns-clause-is g c =
    is_planned c.args.making.catalog.now c.args.making.prices.now c.args.making.count c.args.entry.now c.get-query.result.now c.as_slice.result.now c.in_ok-items.items.items c.best.new.pool.nodes _ _
    c.get-query.ensures c.as_slice.ensures c.in_ok-items.ensures c.in_ok-problem.ensures.is c.in_ok-plan.ensures.plan c.in_ok-plan.ensures.first
    (c.in_ok-columns.ensures ∙ c.as_slice-2.ensures) refl (c.in_ok-order.ensures ∙ c.as_slice-3.ensures) refl
    c.price_of_plan-price.ensures.rows c.price_of_plan-price.ensures.cost c.price_of_plan-price.ensures.few c.price_of_plan-price.ensures.fits
