use Rattle.jp_search.proofs.NumberLaws.{HasBelow}
use Rattle.jp_search.proofs.numbers.set_of.Given as goal

abbrev pub invariant-items : goal.invariant-items
invariant-items l = HasBelow l.number l.i l.set
