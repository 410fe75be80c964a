use Rattle.jp_special.proofs.BlockSize.{has_room}
use Rattle.jp_special.proofs.block.specials.Goals as goal

-- src/block.rt:19:19
pub outline-requires : goal.outline-requires
outline-requires c = has_room c.args.query.now c.requires
