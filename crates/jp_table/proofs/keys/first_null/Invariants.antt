use Rattle.std.proofs.Common.{◌≡◌, [], drop, take}
use Rattle.jp_table.specs.Judging.{first_refusal, no_null}
use Rattle.jp_table.proofs.keys.first_null.Given as goal

abbrev pub invariant-rows : goal.invariant-rows
invariant-rows l = first_refusal (no_null l.keys) (take l.row l.table) (drop l.row l.table) ≡ first_refusal (no_null l.keys) [] l.table
