use Rattle.std.proofs.Common.{◌≡◌, ◌++◌, ◌+◌, drop, map}
use Rattle.std.specs.List.{flat_map}
use Rattle.jp_naive.specs.Joining.{pair_of}
use Rattle.jp_naive.proofs.leaves.all_pairs.Given as goal

abbrev pub invariant-lefts : goal.invariant-lefts
invariant-lefts l = record {
  width : l.pairs.width ≡ l.right.width + l.left.width;
  more : l.pairs.list ++ flat_map (λ x. map (pair_of x) l.right.list) (drop l.at l.left.list) ≡ flat_map (λ x. map (pair_of x) l.right.list) l.left.list;
}
