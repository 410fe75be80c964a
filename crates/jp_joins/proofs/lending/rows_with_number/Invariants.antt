use Rattle.std.proofs.Common.{◌≡◌, drop}
use Rattle.jp_joins.specs.Lending.{rows_by_number}
use Rattle.jp_joins.proofs.lending.rows_with_number.Given as goal

abbrev pub invariant-lent : goal.invariant-lent
invariant-lent l = rows_by_number (drop l.rows-index l.lent) l.sub ≡ rows_by_number l.lent l.sub
