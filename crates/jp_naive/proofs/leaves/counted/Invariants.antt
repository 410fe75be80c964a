use Rattle.std.proofs.Common.{◌≡◌, map}
use Rattle.std.specs.List.{range_with_len}
use Rattle.jp_naive.specs.Joining.{single}
use Rattle.jp_naive.proofs.leaves.counted.Given as goal

abbrev pub invariant-rows : goal.invariant-rows
invariant-rows l = record {
  width : l.numbers.width ≡ 1;
  list : l.numbers.list ≡ map single (range_with_len 0 l.row);
}
