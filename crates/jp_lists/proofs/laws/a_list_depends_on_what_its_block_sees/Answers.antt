use Rattle.jp_lists.proofs.SeenLaws.{list_by_sight}
use Rattle.jp_lists.proofs.laws.a_list_depends_on_what_its_block_sees.Goals as goal

pub returns : goal.returns
returns c = record { rows = list_by_sight }
