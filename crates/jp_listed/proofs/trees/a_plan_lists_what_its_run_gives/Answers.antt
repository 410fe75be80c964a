use Rattle.jp_listed.proofs.TreeLists.{block_listed}
use Rattle.jp_listed.proofs.trees.a_plan_lists_what_its_run_gives.Goals as goal

pub returns : goal.returns
returns c = block_listed
