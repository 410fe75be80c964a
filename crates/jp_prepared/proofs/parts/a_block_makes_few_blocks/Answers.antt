use Rattle.jp_prepared.proofs.BlockLaws.{few_blocks}
use Rattle.jp_prepared.proofs.NestLaws.{nest_is}
use Rattle.jp_prepared.proofs.parts.a_block_makes_few_blocks.Goals as goal

pub returns : goal.returns
returns c = record { is = nest_is; few = few_blocks }
