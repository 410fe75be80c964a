use Rattle.std.proofs.Common.{sym, subst, length, ◌≤◌, ◌+◌, ◌^◌}
use Rattle.jp_cost.proofs.RangeLaws.{rounds_range}
use Rattle.jp_cost.proofs.estimates.estimate.Goals as goal

pub returns-clause-least : goal.returns-clause-least
returns-clause-least c = subst (λ n. 1 ≤ n) (sym c.estimate_in.ensures) (rounds_range c.args.problem.now c.requires.estimable.rows (length c.as_slice.result.now + 1) c.args.set).0

pub returns-clause-most : goal.returns-clause-most
returns-clause-most c = subst (λ n. n ≤ 2 ^ 60) (sym c.estimate_in.ensures) (rounds_range c.args.problem.now c.requires.estimable.rows (length c.as_slice.result.now + 1) c.args.set).1
