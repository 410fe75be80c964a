use Rattle.std.proofs.Common.{◌≡◌, ◌++◌, filter, take}
use Rattle.jp_frame.specs.Methods.{is_matched, matches}
use Rattle.jp_joins.specs.Meant.{is_match}
use Rattle.jp_joins.specs.Working.{is_kept}
use Rattle.jp_joins.specs.Tuples.{map_of, maps_of}
use Rattle.jp_joins.proofs.work.add_matches.Given as goal

abbrev pub invariant-rights : goal.invariant-rights
invariant-rights g l =
    let meant = g.E.TupleEnv.meant l.fn.work.env.now in
    record {
      more : maps_of l.found.items ≡ maps_of l.fn.found.items ++ filter (is_kept meant) (matches (is_match meant) (maps_of (take l.right-index l.rights)) (map_of l.fn.left));
      any : l.any ≡ is_matched (is_match meant) (maps_of (take l.right-index l.rights)) (map_of l.fn.left);
    }
