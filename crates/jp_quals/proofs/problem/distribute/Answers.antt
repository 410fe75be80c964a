use Rattle.jp_special.proofs.BlockSize.{has_room}
use Rattle.jp_quals.proofs.problem.distribute.Goals as goal

pub outline-requires : goal.outline-requires
outline-requires c = has_room c.args.query.now c.requires.block
