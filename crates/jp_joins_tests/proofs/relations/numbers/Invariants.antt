use Rattle.std.specs.Prelude.{All}
use Rattle.jp_joins_tests.specs.Relations.{IsSmall}
use Rattle.jp_joins_tests.proofs.relations.numbers.Given as goal

abbrev pub invariant-given : goal.invariant-given
invariant-given l = All IsSmall l.list.items
