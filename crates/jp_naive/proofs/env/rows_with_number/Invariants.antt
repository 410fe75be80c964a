use Rattle.std.proofs.Common.{◌≡◌, drop}
use Rattle.jp_naive.specs.Sublinks.{rows_by_number}
use Rattle.jp_naive.proofs.env.rows_with_number.Given as goal

abbrev pub invariant-lent : goal.invariant-lent
invariant-lent l = rows_by_number (drop l.rows-index l.lent) l.sub ≡ rows_by_number l.lent l.sub
