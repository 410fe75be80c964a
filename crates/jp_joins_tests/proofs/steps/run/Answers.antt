use Rattle.std.proofs.Common.{refl}
use Rattle.jp_joins_tests.proofs.StepLaws.{tuples_join, tuples_look_up}
use Rattle.jp_joins_tests.proofs.steps.run.Goals as goal

pub nest-requires : goal.nest-requires
nest-requires g c = λ k. ((refl, tt), (c.requires.can, (c.requires.gives, tuples_join c.args.step.now c.requires.step c.args.lefts.now c.args.rights.now c.requires.lefts c.requires.rights c.kind_of-kind.result c.kind_of-kind.ensures)))

pub hash-requires : goal.hash-requires
hash-requires g c = λ k. ((refl, tt), (c.requires.can, (c.requires.gives, (tuples_join c.args.step.now c.requires.step c.args.lefts.now c.args.rights.now c.requires.lefts c.requires.rights c.kind_of-kind.result c.kind_of-kind.ensures, tuples_look_up c.args.step.now c.requires.step c.args.lefts.now c.args.rights.now c.requires.lefts c.requires.rights))))

pub hash_right-requires : goal.hash_right-requires
hash_right-requires g c = λ k. ((refl, tt), (c.requires.can, (c.requires.gives, (tuples_join c.args.step.now c.requires.step c.args.lefts.now c.args.rights.now c.requires.lefts c.requires.rights c.kind_of-kind.result c.kind_of-kind.ensures, (tuples_look_up c.args.step.now c.requires.step c.args.lefts.now c.args.rights.now c.requires.lefts c.requires.rights, c.in-Left.is)))))

pub hash-requires-in_default : goal.hash-requires-in_default
hash-requires-in_default g c = λ k. ((refl, tt), (c.requires.can, (c.requires.gives, (tuples_join c.args.step.now c.requires.step c.args.lefts.now c.args.rights.now c.requires.lefts c.requires.rights c.kind_of-kind.result c.kind_of-kind.ensures, tuples_look_up c.args.step.now c.requires.step c.args.lefts.now c.args.rights.now c.requires.lefts c.requires.rights))))

pub merge-requires : goal.merge-requires
merge-requires g c = λ k. ((refl, tt), (c.requires.can, (c.requires.gives, (tuples_join c.args.step.now c.requires.step c.args.lefts.now c.args.rights.now c.requires.lefts c.requires.rights c.kind_of-kind.result c.kind_of-kind.ensures, tuples_look_up c.args.step.now c.requires.step c.args.lefts.now c.args.rights.now c.requires.lefts c.requires.rights))))
