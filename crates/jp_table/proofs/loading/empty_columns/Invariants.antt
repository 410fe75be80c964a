use Rattle.std.proofs.Common.{◌≡◌, [], map, take}
use Rattle.jp_table.proofs.loading.empty_columns.Given as goal

abbrev pub invariant-loop-i : goal.invariant-loop-i
invariant-loop-i l = l.made.items ≡ map (λ column. (column.1, [])) (take l.i l.columns)
