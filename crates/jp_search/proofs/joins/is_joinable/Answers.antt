use Rattle.jp_problem.specs.LegalTests.{is_joinable}
use Rattle.jp_problem.proofs.LegalLaws.{joinable_says}
use Rattle.jp_problem.proofs.SetTests.{same_test}
use Rattle.jp_search.proofs.joins.is_joinable.Goals as goal

pub returns : goal.returns
returns c =
    let says = joinable_says c.args.problem.now c.args.set in
    same_test c.is_joinable.result (is_joinable c.args.problem.now.joins c.args.set) (λ t. says.1 (c.is_joinable.ensures.0 t)) (λ e. c.is_joinable.ensures.1 (says.0 e))
