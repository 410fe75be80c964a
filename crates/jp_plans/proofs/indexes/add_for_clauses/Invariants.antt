use Rattle.std.specs.Prelude.{All}
use Rattle.jp_indexes.specs.Indexes.{IsIndex}
use Rattle.jp_plans.proofs.indexes.add_for_clauses.Given as goal

abbrev pub invariant-clauses : goal.invariant-clauses
invariant-clauses l = All (IsIndex l.tables.list) l.indexes.items
