use Rattle.std.specs.Prelude.{All}
use Rattle.jp_joins_tests.specs.Relations.{IsSmall}
use Rattle.jp_joins_tests.proofs.timed.column.Given as goal

abbrev pub invariant-rows : goal.invariant-rows
invariant-rows l = All IsSmall l.list.items
