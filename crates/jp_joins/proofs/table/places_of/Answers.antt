use Rattle.std.proofs.Common.{◌∙◌, ap, ◌++◌}
use Rattle.jp_base.specs.declared.values.Value.{Value}
use Rattle.jp_base.specs.Values.{are_equal}
use Rattle.jp_joins.specs.Keys.{has_value, once_if, table_at}
use Rattle.jp_joins.proofs.JoinFacts.{no_tuple, value_of_map}
use Rattle.jp_joins.proofs.PlaceFacts.{places_more}
use Rattle.jp_joins.proofs.table.places_of.Goals as goal

pub tuples-preserved : goal.tuples-preserved
tuples-preserved g c v =
    let meant = g.E.TupleEnv.meant c.args.env.now in
    places_more (has_value meant c.args.side.now v) c.args.tuples.now c.tuples.at no_tuple (table_at c.tuples.table v) (table_at c.add_by_key.new.table v) c.tuples-test.true (c.tuples.invariant v)
    (c.in_ok-add_by_key.ensures v ∙ ap (λ (u : Value). table_at c.tuples.table v ++ once_if (are_equal v u) c.tuples.at)
    (c.key_of-key.ensures ∙ c.key_cell.ensures ∙ value_of_map meant c.args.side.now c.args.tuples.now c.tuples.at no_tuple c.tuples-test.true))
