use Rattle.jp_problem.proofs.SetTests.{same_test, meets_says}
use Rattle.jp_problem.specs.Sets.{meets}
use Rattle.jp_problem.proofs.sets.meets.Goals as goal

pub returns : goal.returns
returns c =
    same_test c.meets.result (meets c.args.a c.args.b) (λ t. (meets_says c.args.a c.args.b).1 (c.meets.ensures.members.0 t)) (λ e. c.meets.ensures.members.1 ((meets_says c.args.a c.args.b).0 e))
