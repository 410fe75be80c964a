use Rattle.std.specs.Prelude.{All}
use Rattle.jp_indexes.specs.Indexes.{IsIndex}
use Rattle.jp_plans.proofs.indexes.add_for_block.Given as goal

abbrev pub invariant-items : goal.invariant-items
invariant-items l = All (IsIndex l.tables.list) l.indexes.items
