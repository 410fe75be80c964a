use Rattle.std.proofs.Common.{refl}
use Rattle.jp_joins.proofs.JoinFacts.{no_tuple}
use Rattle.jp_joins.proofs.SortedFacts.{keyed_more}
use Rattle.jp_joins.proofs.sorting.with_keys.Goals as goal

pub tuples-preserved : goal.tuples-preserved
tuples-preserved g c =
    let more = keyed_more (g.E.TupleEnv.meant c.args.env.now) c.args.side.now c.args.tuples.now c.tuples.at no_tuple c.tuples.list.items c.push.new.self.items _ c.tuples-test.true c.in_ok-push.ensures.items refl c.key_cell-key.ensures c.tuples.invariant.tuples c.tuples.invariant.keys in
    record { tuples = more.0; keys = more.1 }
