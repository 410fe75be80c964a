use Rattle.jp_tree.proofs.PlanTreeLaws.{tree_named}
use Rattle.jp_tree.proofs.laws.a_number_names_its_tree.Goals as goal

pub returns : goal.returns
returns c = tree_named
