use Rattle.std.proofs.Common.{◌≡◌, filter, length, take}
use Rattle.std.specs.List.{flat_map}
use Rattle.jp_frame.specs.Methods.{is_matched, matches_to}
use Rattle.jp_joins.specs.Meant.{is_match}
use Rattle.jp_joins.specs.Tuples.{maps_of}
use Rattle.jp_joins.specs.Working.{AreMarks, is_kept}
use Rattle.jp_joins.proofs.right_hashing.looked_up_by.Given as goal

abbrev pub invariant-rights : goal.invariant-rights
invariant-rights g l =
    let meant = g.E.TupleEnv.meant l.fn.work.env.now in
    record {
      more : maps_of l.found.items ≡ filter (is_kept meant) (flat_map (matches_to (is_match meant) (maps_of l.lefts)) (maps_of (take l.at l.rights)));
      marks : AreMarks (is_matched (is_match meant) (maps_of (take l.at l.rights))) (maps_of l.lefts) l.marks.items;
      long : length l.marks.items ≡ length l.lefts;
    }
