use Rattle.std.proofs.Common.{◌∙◌, ap}
use Rattle.jp_joins.specs.Keys.{lists_of, table_at}
use Rattle.jp_joins.proofs.JoinFacts.{no_tuple, value_of_map}
use Rattle.jp_joins.proofs.ListFacts.{list_more}
use Rattle.jp_joins.proofs.table.lists_at.Goals as goal

pub tuples-preserved : goal.tuples-preserved
tuples-preserved g c =
    let meant = g.E.TupleEnv.meant c.args.env.now in
    ap lists_of c.in_ok-push.ensures.items
    ∙ list_more meant c.args.side.now (table_at c.args.table.now) c.args.tuples.now c.tuples.at no_tuple c.tuples.lists.items c.list_by_key.result c.tuples-test.true c.tuples.invariant
    (c.list_by_key.ensures ∙ ap (table_at c.args.table.now) (c.key_of-key.ensures ∙ c.key_cell.ensures ∙ value_of_map meant c.args.side.now c.args.tuples.now c.tuples.at no_tuple c.tuples-test.true))
