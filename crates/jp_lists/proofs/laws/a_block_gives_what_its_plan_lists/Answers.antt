use Rattle.jp_lists.proofs.Unfolds.{block_unfolds}
use Rattle.jp_lists.proofs.laws.a_block_gives_what_its_plan_lists.Goals as goal

pub returns : goal.returns
returns c = block_unfolds
