use Rattle.std.proofs.Common.{◌≡◌, ◌++◌, drop, map}
use Rattle.jp_naive.specs.Joining.{pair_of}
use Rattle.jp_naive.proofs.leaves.push_all.Given as goal

abbrev pub invariant-rights : goal.invariant-rights
invariant-rights l = record {
  width : l.pairs.width ≡ l.initial.pairs.width;
  more : l.pairs.list ++ map (pair_of l.left) (drop l.at l.right.list) ≡ l.initial.pairs.list ++ map (pair_of l.left) l.right.list;
}
