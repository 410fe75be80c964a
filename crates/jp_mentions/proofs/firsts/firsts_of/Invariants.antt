use Rattle.std.proofs.Common.{◌≡◌, take}
use Rattle.jp_query.specs.Mentions.{first_of_each}
use Rattle.jp_mentions.proofs.firsts.firsts_of.Given as goal

abbrev pub invariant-loop-number : goal.invariant-loop-number
invariant-loop-number l = l.firsts.items ≡ first_of_each (take l.number-index l.numbers)
