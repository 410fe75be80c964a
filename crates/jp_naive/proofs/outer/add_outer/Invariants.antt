use Rattle.std.proofs.Common.{◌≡◌, ◌++◌, take}
use Rattle.jp_naive.proofs.outer.add_outer.Given as goal

abbrev pub invariant-rows : goal.invariant-rows
invariant-rows l = l.rows.items ≡ l.initial.rows.items ++ take l.row-index l.outer
