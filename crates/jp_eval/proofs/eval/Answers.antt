use Rattle.std.proofs.Common.{◌∙◌}
use Rattle.jp_eval.proofs.ExactLaws.{exact}
use Rattle.jp_eval.proofs.eval.Goals as goal

pub returns : goal.returns
returns g c = c.in_ok-value.ensures ∙ exact (g.E.Env.sublink_rows c.args.env.now) c.args.expr.now (g.E.Env.environment c.args.env.now) c.requires
