use Rattle.jp_folding.proofs.NoRightLaws.{expr_has_none, tree_has_none, query_has_none}
use Rattle.jp_folding.proofs.laws.folding_leaves_no_right_join.Goals as goal

pub returns : goal.returns
returns c = record { expr = expr_has_none; tree = tree_has_none; query = query_has_none }
