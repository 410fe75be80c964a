use Rattle.std.specs.Prelude.{All}
use Rattle.jp_joins.specs.Tuples.{map_of}
use Rattle.jp_joins_tests.specs.Relations.{IsLeft}
use Rattle.jp_joins_tests.proofs.steps.rows_of_left.Given as goal

abbrev pub invariant-rows : goal.invariant-rows
invariant-rows l = All (λ t. IsLeft (map_of t)) l.list.items
