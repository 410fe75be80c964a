use Rattle.jp_problem.proofs.SetTests.{same_test, is_within_says}
use Rattle.jp_problem.specs.Sets.{is_within}
use Rattle.jp_problem.proofs.sets.is_within.Goals as goal

pub returns : goal.returns
returns c =
    same_test c.within.result (is_within c.args.a c.args.b) (λ t. (is_within_says c.args.a c.args.b).1 (c.within.ensures.0 t)) (λ e. c.within.ensures.1 ((is_within_says c.args.a c.args.b).0 e))
