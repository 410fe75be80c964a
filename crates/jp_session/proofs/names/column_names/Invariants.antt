use Rattle.std.proofs.Common.{◌≡◌, map, take}
use Rattle.jp_prepared.specs.Names.{column_name}
use Rattle.jp_session.proofs.names.column_names.Given as goal

abbrev pub invariant-columns : goal.invariant-columns
invariant-columns l = l.names ≡ map column_name (take l.at l.columns)
