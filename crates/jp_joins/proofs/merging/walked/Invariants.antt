use Rattle.std.proofs.Common.{◌≡◌, ◌≤◌, ◌<◌, ℕ, true, filter, length, map, take}
use Rattle.std.specs.List.{flat_map}
use Rattle.jp_joins.specs.Meant.{is_match, left_gives}
use Rattle.jp_joins.specs.Sorting.{key_at, key_before, map_of_keyed}
use Rattle.jp_joins.specs.Tuples.{maps_of}
use Rattle.jp_joins.specs.Working.{is_kept}
use Rattle.jp_joins.specs.declared.sorting.Keyed.{Keyed}
use Rattle.jp_joins.proofs.merging.walked.Given as goal

abbrev pub invariant-lefts : goal.invariant-lefts
invariant-lefts g l =
    let meant = g.E.TupleEnv.meant l.fn.work.env.now in
    record {
      found : maps_of l.found.items ≡ filter (is_kept meant) (flat_map (left_gives meant.kind (is_match meant) (map map_of_keyed l.rights)) (map map_of_keyed (take l.at l.lefts)));
      inside : l.from ≤ length l.rights;
      before : (k i : ℕ) (d e : Keyed) → k < l.from → l.at ≤ i → i < length l.lefts → key_before (key_at l.rights k d) (key_at l.lefts i e) ≡ true;
    }
