use Rattle.std.proofs.Common.{◌≡◌, drop}
use Rattle.jp_lists.specs.Lists.{block_of_sublink, block_of_sublink_from}
use Rattle.jp_exec.proofs.places.block_of_sublink.Given as goal

abbrev pub invariant-blocks-2 : goal.invariant-blocks-2
invariant-blocks-2 l = block_of_sublink_from l.at (drop l.at l.blocks) l.sub ≡ block_of_sublink l.blocks l.sub
