use Rattle.std.proofs.Common.{◌∙◌}
use Rattle.jp_joins.specs.Keys.{value_of_some}
use Rattle.jp_joins.proofs.KeyFacts.{listed_more}
use Rattle.jp_joins.proofs.JoinFacts.{value_of_map}
use Rattle.jp_joins.proofs.table.table_of.Goals as goal

pub tuples-preserved : goal.tuples-preserved
tuples-preserved g c v =
    let meant = g.E.TupleEnv.meant c.args.env.now in
    listed_more meant c.args.side.now c.args.tuples.now c.tuples.at _ (value_of_some c.key_of-key.result) v _ _ c.tuples-test.true
    (c.key_of-key.ensures ∙ c.key_cell.ensures ∙ value_of_map meant c.args.side.now c.args.tuples.now c.tuples.at _ c.tuples-test.true)
    (c.tuples.invariant v) (c.in_ok-add_by_key.ensures v)
