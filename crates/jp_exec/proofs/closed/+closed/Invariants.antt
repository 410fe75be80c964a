use Rattle.std.proofs.Common.{◌+◌, ◌-◌, ◌*◌, ◌^◌, map, take}
use Rattle.std.specs.List.{flat_map}
use Rattle.jp_induction.specs.Each.{Each}
use Rattle.jp_lists.specs.Lists.{block_of_sublink}
use Rattle.jp_tree.specs.BlockParts.{blocks_of_item}
use Rattle.jp_exec.specs.Given.{RefersWithin}
use Rattle.jp_exec.proofs.closed.+closed.Given as goal

abbrev pub decreases-refers_within : goal.decreases-refers_within
decreases-refers_within l = (2 ^ 64 - l.number) * 4 + 3

abbrev pub decreases-items_within : goal.decreases-items_within
decreases-items_within l = (2 ^ 64 - l.number) * 4 + 2

abbrev pub decreases-sublinks_within : goal.decreases-sublinks_within
decreases-sublinks_within l = (2 ^ 64 - l.number) * 4 + 2

abbrev pub decreases-item_within : goal.decreases-item_within
decreases-item_within l = (2 ^ 64 - l.number) * 4 + 1

abbrev pub decreases-sublink_within : goal.decreases-sublink_within
decreases-sublink_within l = (2 ^ 64 - l.number) * 4 + 1

abbrev pub invariant-items_within-items : goal.invariant-items_within-items
invariant-items_within-items l = Each (RefersWithin l.prepared l.set) (flat_map blocks_of_item (take l.item-index l.block.problem.items))

abbrev pub invariant-sublinks_within-sublinks : goal.invariant-sublinks_within-sublinks
invariant-sublinks_within-sublinks l = Each (RefersWithin l.prepared l.set) (map (block_of_sublink l.prepared.blocks) (take l.sub-index l.numbers))
