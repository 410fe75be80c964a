use Rattle.jp_problem.proofs.LegalLaws.{joinable_result}
use Rattle.jp_problem.proofs.joinable.is_joinable.Goals as goal

pub returns : goal.returns
returns c = joinable_result c.args.problem.now c.as_slice.result.now c.args.set c.all_stand.result c.as_slice.ensures c.all_stand.ensures
