use Rattle.std.proofs.Common.{◌∙◌, ap, fold}
use Rattle.jp_problem.proofs.SetTests.{without_is}
use Rattle.jp_problem.specs.Sets.{without}
use Rattle.jp_cost.specs.Rounds.{with_right}
use Rattle.jp_cost.proofs.RoundLaws.{absent_is}
use Rattle.jp_cost.proofs.estimates.core.Goals as goal

pub returns-clause-is : goal.returns-clause-is
returns-clause-is c = without_is c.args.set c.absent.result c.minus.result c.minus.ensures.members ∙ ap (without c.args.set) (c.absent.ensures ∙ ap (fold (with_right c.args.set) 0) c.as_slice.ensures ∙ absent_is c.args.set c.args.problem.now.joins)
