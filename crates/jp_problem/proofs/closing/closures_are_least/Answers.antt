use Rattle.jp_problem.proofs.ClosureLaws.{least_closed}
use Rattle.jp_problem.proofs.closing.closures_are_least.Goals as goal

pub returns : goal.returns
returns c = least_closed
