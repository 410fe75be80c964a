use Rattle.jp_special_trees.proofs.SizeLaws.{small_has_room}
use Rattle.jp_special_trees.proofs.compare.distributed.Goals as goal

pub outline-requires : goal.outline-requires
outline-requires c = small_has_room c.args.query.now c.requires
