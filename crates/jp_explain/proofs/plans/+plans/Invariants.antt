use Rattle.std.proofs.Common.{◌+◌, ◌-◌, ◌*◌, ◌^◌}
use Rattle.jp_explain.proofs.plans.+plans.Given as goal

abbrev pub decreases-push_block : goal.decreases-push_block
decreases-push_block l = (2 ^ 64 - l.number) * 2 ^ 70 + 2 ^ 69 + 1

abbrev pub decreases-push_plan : goal.decreases-push_plan
decreases-push_plan l = (2 ^ 64 - l.number) * 2 ^ 70 + 2 ^ 69

abbrev pub decreases-push_tree : goal.decreases-push_tree
decreases-push_tree l = (2 ^ 64 - l.number) * 2 ^ 70 + l.id * 8 + 4

abbrev pub decreases-push_scan : goal.decreases-push_scan
decreases-push_scan l = (2 ^ 64 - l.number) * 2 ^ 70 + 3

abbrev pub decreases-push_item_blocks : goal.decreases-push_item_blocks
decreases-push_item_blocks l = (2 ^ 64 - l.number) * 2 ^ 70 + 2
