use Rattle.std.proofs.Common.{ap}
use Rattle.jp_joins.specs.Tuples.{maps_of}
use Rattle.jp_fulls.proofs.LeafFacts.{full_meant}
use Rattle.jp_fulls.proofs.fulls.full_rows.Goals as goal

pub returns : goal.returns
returns c tables outer bare =
    full_meant tables c.args.layout.now c.args.sources.items outer c.args.rels bare c.in_ok-parts.parts c.add_numbers-2.new.numbers c.in_ok-apart.apart.leaves.items c.in_ok-apart.apart.numbers.items
    c.in_ok-apart.ensures.leaves c.in_ok-apart.ensures.numbers c.in_ok-parts.ensures c.empty.result c.args.left_rels (maps_of c.args.tuples.now.matched.items) (maps_of c.args.tuples.now.alone.items) (maps_of c.as_slice.result.now) (maps_of c.as_slice-2.result.now)
    c.new-numbers.result.list c.add_numbers.new.numbers.list
    c.empty.ensures.members c.new-numbers.ensures.none (ap maps_of c.as_slice.ensures.value) (ap maps_of c.as_slice-2.ensures.value) c.in_ok-add_numbers.ensures.more c.in_ok-add_numbers-2.ensures.more
