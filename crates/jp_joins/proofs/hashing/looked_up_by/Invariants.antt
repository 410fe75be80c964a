use Rattle.std.proofs.Common.{◌≡◌, filter, take}
use Rattle.std.specs.List.{flat_map}
use Rattle.jp_joins.specs.Meant.{is_match, left_gives}
use Rattle.jp_joins.specs.Working.{is_kept}
use Rattle.jp_joins.specs.Tuples.{maps_of}
use Rattle.jp_joins.proofs.hashing.looked_up_by.Given as goal

abbrev pub invariant-lefts : goal.invariant-lefts
invariant-lefts g l =
    let meant = g.E.TupleEnv.meant l.fn.work.env.now in
    maps_of l.found.items ≡ filter (is_kept meant) (flat_map (left_gives meant.kind (is_match meant) (maps_of l.rights)) (maps_of (take l.at l.lefts)))
