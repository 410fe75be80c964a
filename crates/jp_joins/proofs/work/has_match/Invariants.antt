use Rattle.std.proofs.Common.{◌≡◌, drop}
use Rattle.jp_frame.specs.Methods.{is_matched}
use Rattle.jp_joins.specs.Meant.{is_match}
use Rattle.jp_joins.specs.Tuples.{map_of, maps_of}
use Rattle.jp_joins.proofs.work.has_match.Given as goal

abbrev pub invariant-rights : goal.invariant-rights
invariant-rights g l = let test = is_match (g.E.TupleEnv.meant l.fn.work.env.now) in is_matched test (maps_of (drop l.right-index l.rights)) (map_of l.fn.left) ≡ is_matched test (maps_of l.rights) (map_of l.fn.left)
