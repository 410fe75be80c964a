use Rattle.std.proofs.Common.{◌≡◌, ◌++◌, filter, length, take}
use Rattle.jp_frame.specs.Methods.{matches_to}
use Rattle.jp_joins.specs.Keys.{maps_at}
use Rattle.jp_joins.specs.Meant.{is_match}
use Rattle.jp_joins.specs.Tuples.{map_of, maps_of}
use Rattle.jp_joins.specs.Working.{Marks, is_kept}
use Rattle.jp_joins.proofs.right_hashing.add_right.Given as goal

abbrev pub invariant-places : goal.invariant-places
invariant-places g l =
    let meant = g.E.TupleEnv.meant l.fn.work.env.now in
    record {
      more : maps_of l.found.items ≡ maps_of l.fn.found.items ++ filter (is_kept meant) (matches_to (is_match meant) (maps_at (maps_of l.lefts) (take l.place-index l.places)) (map_of l.fn.right));
      marks : Marks (is_match meant) (maps_of l.lefts) (map_of l.fn.right) (take l.place-index l.places) l.fn.marks.items l.marks.items;
      long : length l.marks.items ≡ length l.fn.marks.items;
    }
