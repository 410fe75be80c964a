use Rattle.std.proofs.Common.{◌≡◌}
use Rattle.std.specs.List.{flat_map}
use Rattle.jp_prepared.specs.Names.{below}
use Rattle.jp_session.specs.Names.{printed_at}
use Rattle.jp_session.proofs.names.printed_names.Given as goal

abbrev pub invariant-relations : goal.invariant-relations
invariant-relations l = l.names ≡ flat_map (printed_at l.leaves) (below l.rel)
