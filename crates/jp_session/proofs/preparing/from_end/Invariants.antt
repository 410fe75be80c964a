use Rattle.std.proofs.Common.{◌≡◌, ◌++◌, length}
use Rattle.jp_session.specs.Turned.{turned}
use Rattle.jp_tree.specs.declared.prepared.Block.{Block}
use Rattle.jp_session.proofs.preparing.from_end.Given as goal

abbrev pub invariant-left : goal.invariant-left
invariant-left l = l.list ++ turned (λ (b : Block). b) l.blocks.items ≡ turned (λ (b : Block). b) l.initial.blocks.items

abbrev pub decreases-left : goal.decreases-left
decreases-left l = length l.blocks.items
