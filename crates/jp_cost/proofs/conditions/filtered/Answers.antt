use Rattle.std.proofs.Common.{◌∙◌, ap, fold}
use Rattle.jp_cost.specs.Steps.{by_class}
use Rattle.jp_cost.proofs.PickLaws.{both_lists}
use Rattle.jp_cost.proofs.conditions.filtered.Goals as goal

pub returns : goal.returns
returns c =
    c.after_classes.ensures ∙ ap (λ rows. fold (by_class c.args.problem.now c.args.set c.args.pick.now) rows c.args.problem.now.classes) c.after_clauses-rows.ensures
    ∙ both_lists c.args.problem.now c.args.set c.args.pick.now c.args.rows
