use Rattle.std.proofs.Common.{◌≡◌, ◌^◌, ◌%◌}
use Rattle.jp_search.proofs.numbers.number.Given as goal

abbrev pub invariant-items : goal.invariant-items
invariant-items l = l.number ≡ l.set % 2 ^ l.i
