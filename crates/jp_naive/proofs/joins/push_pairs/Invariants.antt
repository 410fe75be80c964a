use Rattle.std.proofs.Common.{◌≡◌, ◌++◌, drop}
use Rattle.jp_naive.specs.Joining.{pairs_of}
use Rattle.jp_naive.proofs.joins.push_pairs.Given as goal

abbrev pub invariant-rights : goal.invariant-rights
invariant-rights l = record {
  width : l.found.width ≡ l.initial.found.width;
  more : l.found.list ++ pairs_of l.left (drop l.at l.right.list) (drop l.at l.marks) ≡ l.initial.found.list ++ pairs_of l.left l.right.list l.marks;
}
