use Rattle.jp_joins.proofs.JoinFacts.{first_can, second_can}
use Rattle.jp_joins.proofs.hashing.looked_up.Goals as goal

pub made_keys-requires-clause-evaluable : goal.made_keys-requires-clause-evaluable
made_keys-requires-clause-evaluable g c = first_can (g.E.TupleEnv.meant c.args.work.now.env.now) c.args.first.now c.args.second.now c.requires.key c.args.lefts.now c.requires.join.left_test

pub made_keys-requires-2-clause-evaluable : goal.made_keys-requires-2-clause-evaluable
made_keys-requires-2-clause-evaluable g c = second_can (g.E.TupleEnv.meant c.args.work.now.env.now) c.args.first.now c.args.second.now c.requires.key c.args.rights.now c.requires.join.right_test
