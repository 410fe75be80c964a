use Rattle.std.proofs.Common.{◌∙◌, ap, sym, map}
use Rattle.std.specs.Option.{option_map}
use Rattle.jp_items.specs.Scenes.{lent_sides}
use Rattle.jp_problem.specs.Problems.{rels_of_item}
use Rattle.jp_plans.specs.KeyWords.{key_here}
use Rattle.jp_plans.proofs.KeyFacts.{found_here, not_here}
use Rattle.jp_plans.proofs.keys.key_sides.Goals as goal

pub returns-in-Some : goal.returns-in-Some
returns-in-Some c =
    let rels = map rels_of_item c.args.items.now in
    let is = ap (key_here rels c.args.left c.args.right) (sym c.expr-item.is) ∙ sym c.sides_in.ensures ∙ ap (option_map lent_sides) c.in-Some.is in
    sym (found_here rels c.args.left c.args.right c.args.list.now c.list.expr-index c.expr-item.result (lent_sides c.in-Some.sides) c.list-test.true is) ∙ c.list.invariant

pub list-preserved : goal.list-preserved
list-preserved c =
    let rels = map rels_of_item c.args.items.now in
    let is = ap (key_here rels c.args.left c.args.right) (sym c.expr-item.is) ∙ sym c.sides_in.ensures ∙ ap (option_map lent_sides) c.in_default.is in
    sym (not_here rels c.args.left c.args.right c.args.list.now c.list.expr-index c.expr-item.result c.list-test.true is) ∙ c.list.invariant
