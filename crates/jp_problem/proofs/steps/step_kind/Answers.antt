use Rattle.jp_problem.proofs.LegalLaws.{step_result}
use Rattle.jp_problem.proofs.steps.step_kind.Goals as goal

pub returns : goal.returns
returns c = step_result c.args.problem.now c.as_slice.result.now c.args.s1 c.args.s2 c.step_of.result c.as_slice.ensures c.step_of.ensures
