use Rattle.std.proofs.Common.{◌∙◌, ap}
use Rattle.jp_query.specs.Operators.{truth_of_value}
use Rattle.jp_eval.proofs.ExactLaws.{exact}
use Rattle.jp_eval.proofs.holds.Goals as goal

pub returns-clause-truth : goal.returns-clause-truth
returns-clause-truth g c = c.truth-truth.ensures ∙ ap truth_of_value (c.in_ok-evaluate.ensures.value ∙ exact (g.E.Env.sublink_rows c.args.env.now) c.args.expr.now (g.E.Env.environment c.args.env.now) c.requires)
