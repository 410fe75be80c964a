use Rattle.std.proofs.Common.{◌≡◌, ◌++◌, length, reverse}
use Rattle.jp_cursor.proofs.nodes.turned.Given as goal

abbrev pub invariant-items : goal.invariant-items
invariant-items g l = l.turned ++ reverse l.items ≡ reverse l.initial.items

abbrev pub decreases-items : goal.decreases-items
decreases-items g l = length l.items
