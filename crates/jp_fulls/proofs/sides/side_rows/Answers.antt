use Rattle.jp_query.specs.Refs.{union}
use Rattle.jp_joins.specs.Tuples.{maps_of}
use Rattle.jp_fulls.proofs.LeafFacts.{all_own, side_meant}
use Rattle.jp_fulls.proofs.sides.side_rows.Goals as goal

pub returns : goal.returns
returns c tables outer is =
    side_meant tables c.args.layout.now c.args.sources.items outer c.args.rels (all_own (union c.args.layout.now) c.args.rels outer is) c.in_ok-parts.parts c.add_numbers.new.numbers c.in_ok-apart.apart.leaves.items c.in_ok-apart.apart.numbers.items
    c.in_ok-apart.ensures.leaves c.in_ok-apart.ensures.numbers c.in_ok-parts.ensures c.empty.result (maps_of c.args.tuples.now) c.new-numbers.result.list
    c.empty.ensures.members c.new-numbers.ensures.none c.in_ok-add_numbers.ensures.more
