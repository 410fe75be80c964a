use Rattle.std.proofs.Common.{◌≡◌, ◌++◌, Bool, filter, take}
use Rattle.jp_frame.specs.Maps.{Map}
use Rattle.jp_joins.specs.Tuples.{maps_of}
use Rattle.jp_joins.specs.Working.{AreMarks, is_kept, is_not}
use Rattle.jp_joins.proofs.right_hashing.add_unmatched.Given as goal

abbrev pub invariant-lefts : goal.invariant-lefts
invariant-lefts g l = (has_match : Map → Bool) → AreMarks has_match (maps_of l.lefts) l.marks
    → maps_of l.found.items ≡ maps_of l.fn.found.items ++ filter (is_kept (g.E.TupleEnv.meant l.fn.work.env.now)) (filter (is_not has_match) (maps_of (take l.at l.lefts)))
