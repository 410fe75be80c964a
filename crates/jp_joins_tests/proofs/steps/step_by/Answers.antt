use Rattle.std.proofs.Common.{rules, refl}
use Rattle.jp_joins_tests.proofs.steps.step_by.Goals as goal

pub run-requires : goal.run-requires
run-requires c = λ k. ((refl, tt), (search rules, (λ t sub r h. search rules, (c.requires.step, (c.requires.lefts, c.requires.rights)))))
