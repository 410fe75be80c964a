use Rattle.std.proofs.Common.{subst, sym}
use Rattle.jp_query.specs.Freshness.{IsFresh}
use Rattle.jp_query.specs.Tables.{AllLoaded, IsTypedOver}
use Rattle.jp_naive_tests.proofs.QueryFacts.{full_typed, full_fresh, full_loaded}
use Rattle.jp_naive_tests.proofs.rows.unmatched_rows_of_both_sides.Goals as goal

pub meaning_of-requires-clause-typed : goal.meaning_of-requires-clause-typed
meaning_of-requires-clause-typed g c = subst (IsTypedOver c.in_ok-tables.tables.list) (sym c.in_ok-query.ensures) (full_typed c.in_ok-tables.tables.list c.in_ok-tables.ensures)

pub meaning_of-requires-clause-fresh : goal.meaning_of-requires-clause-fresh
meaning_of-requires-clause-fresh g c = subst IsFresh (sym c.in_ok-query.ensures) full_fresh

pub meaning_of-requires-clause-loaded : goal.meaning_of-requires-clause-loaded
meaning_of-requires-clause-loaded g c = subst (AllLoaded c.in_ok-tables.tables.list) (sym c.in_ok-query.ensures) (full_loaded c.in_ok-tables.tables.list c.in_ok-tables.ensures)
