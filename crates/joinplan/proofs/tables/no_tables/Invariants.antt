use Rattle.std.proofs.Common.{◌≡◌, ◌≤◌, None, length}
use Rattle.std.specs.Prelude.{replicate}
use Rattle.joinplan.proofs.tables.no_tables.Given as goal

abbrev pub invariant-loop : goal.invariant-loop
invariant-loop l = record {
  made : l.list ≡ replicate l.counter None;
  end : l.end ≡ length l.catalog.tables;
  within : l.counter ≤ l.end;
}
