use Rattle.std.proofs.Common.{◌≡◌, map}
use Rattle.jp_prepared.specs.Items.{distinct_values}
use Rattle.jp_prepared.specs.Names.{below}
use Rattle.jp_session.proofs.items.distinct_of.Given as goal

abbrev pub invariant-columns : goal.invariant-columns
invariant-columns l = l.distinct ≡ map (distinct_values l.def) (below l.column)
