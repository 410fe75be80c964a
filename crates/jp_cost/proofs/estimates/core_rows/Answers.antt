use Rattle.std.proofs.Common.{◌∙◌, ◌*◌, ◌<◌, ◌≤◌, ◌^◌, ap, ap₂, sym, subst, length, get_or}
use Rattle.std.specs.Prelude.{if◌then◌else◌}
use Rattle.jp_problem.specs.Sets.{meets}
use Rattle.jp_cost.specs.declared.conditions.Pick.TheVariants.{Ending}
use Rattle.jp_cost.specs.Estimates.{at_most, core_rows, filtered_by}
use Rattle.jp_cost.proofs.CoreLaws.{item_further, items_ended}
use Rattle.jp_cost.proofs.estimates.core_rows.Goals as goal

pub items-preserved : goal.items-preserved
items-preserved c =
    let problem = c.args.problem.now in
    let set = c.args.set in
    let item = c.item-item.result in
    let one = c.single-one.result in
    let is = c.after_item-rows.ensures ∙ ap₂ (λ core upto. if meets core one then filtered_by problem set (Ending core one upto) (at_most (c.items.rows * item.rows)) else c.items.rows) c.requires.is_core c.both-upto.ensures.is in
    let more =
    item_further problem set c.items.rows c.items.i item one c.items.upto c.after_item-rows.result (subst (λ xs. c.items.i < length xs) c.as_slice-item-items.ensures c.items-test.true) (sym (c.item-item.is ∙ ap (λ xs. get_or xs c.items.i item) c.as_slice-item-items.ensures)) c.single-one.ensures (subst (λ n. n < 2 ^ 64) c.requires.is_core c.requires.below) c.items.invariant.1 is
    in
    (more.0 ∙ c.items.invariant.0, λ p. c.both-upto.ensures.is ∙ more.1 p)

pub returns : goal.returns
returns c = items_ended c.args.problem.now c.args.set c.items.rows c.items.i (subst (λ xs. length xs ≤ c.items.i) c.as_slice-item-items.ensures c.items-test.false) (core_rows c.args.problem.now c.args.set) c.items.invariant.0
