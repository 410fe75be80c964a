use Rattle.std.specs.Prelude.{All}
use Rattle.jp_indexes.specs.Indexes.{IsIndex}
use Rattle.jp_plans.proofs.indexes.indexes_for.Given as goal

abbrev pub invariant-blocks-2 : goal.invariant-blocks-2
invariant-blocks-2 l = All (IsIndex l.tables.list) l.indexes.items
