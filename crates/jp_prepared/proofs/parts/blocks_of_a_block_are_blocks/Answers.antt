use Rattle.jp_prepared.proofs.BlockLaws.{blocks_are_blocks}
use Rattle.jp_prepared.proofs.parts.blocks_of_a_block_are_blocks.Goals as goal

pub returns : goal.returns
returns c = blocks_are_blocks
